-- At most five groups, here of the number's code, fit into eight bytes.
use Rattle.std.proofs.Common.{w32, arith}
use Rattle.std.proofs.lemmas.Int.{to_z-of_z}
use Rattle.groups.specs.Format.{code_of}
use Rattle.groups.specs.Spelling.{one_to_five}
use Rattle.leaves.proofs.InFront.{in_front}
use Rattle.leaves.proofs.buffers.spell_signed.Goals as goal

pub returns : goal.returns
returns c =
    let sent = to_z-of_z w32 c.args.n c.ranges.n in
    rw (c.length.ensures, c.code.ensures, sent) (in_front _ _ _ _ (rw sent at c.write_signed.ensures) (omega (arith, (one_to_five (code_of c.args.n)).1)))
