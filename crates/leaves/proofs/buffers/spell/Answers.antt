-- At most five groups fit into eight bytes.
use Rattle.std.proofs.Common.{arith}
use Rattle.groups.specs.Spelling.{one_to_five}
use Rattle.leaves.proofs.InFront.{in_front}
use Rattle.leaves.proofs.buffers.spell.Goals as goal

pub returns : goal.returns
returns c = rw c.length.ensures (in_front _ _ _ _ c.write.ensures (omega (arith, (one_to_five c.args.n).1)))
