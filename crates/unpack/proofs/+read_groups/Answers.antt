-- The bytes that a number took are no more than the groups that were left.
use Rattle.std.proofs.Common.{sym, ◌∙◌, arith}
use Rattle.groups.specs.Format.{bits}
use Rattle.groups.specs.ByteByByte.{reads_inside}
use Rattle.unpack.proofs.+read_groups.Goals as goal

pub overflow_add-result-2 : goal.overflow_add-result-2
overflow_add-result-2 t c = omega (arith, (reads_inside bits _ _ (sym c.read_groups.ensures ∙ c.in_ok-above.was)).few)
