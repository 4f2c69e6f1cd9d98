-- Each command that reads has a byte at least, so there are no more commands than bytes before the rest. The measure is the rest.
use Rattle.std.proofs.Common.{length, ◌+◌, ◌≤◌}
use Rattle.showing.proofs.show_commands.Given as goal

abbrev pub invariant-loop-rest : goal.invariant-loop-rest
invariant-loop-rest g l = l.number + length l.rest ≤ length l.commands

abbrev pub decreases-loop-rest : goal.decreases-loop-rest
decreases-loop-rest g l = length l.rest
