-- `steps` is `steps_from`: what is left of the run is the whole run at every turn of the loop (Turns), on the lists that were lent.
use Rattle.std.proofs.Common.{◌≡◌, ◌-◌}
use Rattle.lending.specs.Lent.{lent_world, SameLists}
use Rattle.running.specs.Loop.{steps_from}
use Rattle.running.proofs.steps.Given as goal

abbrev pub invariant-loop-turns : goal.invariant-loop-turns
invariant-loop-turns l = record { same_lists : SameLists l.lent l.fn.lent; left : steps_from (l.n - l.turns) l.turns l.w (lent_world l.b l.lent) ≡ steps_from l.fn.n 0 l.fn.w (lent_world l.fn.board l.fn.lent) }
