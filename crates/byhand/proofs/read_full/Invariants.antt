-- The bytes read stand within the buffer. The measure is the room left.
use Rattle.std.proofs.Common.{length, ◌-◌, ◌≤◌}
use Rattle.byhand.proofs.read_full.Given as goal

abbrev pub invariant-loop-came : goal.invariant-loop-came
invariant-loop-came g l = l.done ≤ length l.buffer

abbrev pub decreases-loop-came : goal.decreases-loop-came
decreases-loop-came g l = length l.buffer - l.done
