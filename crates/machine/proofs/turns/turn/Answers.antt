-- `turn` is `turn_of`: a run of one, its count forgotten (`run_of-one`).
use mathlib.Core.Path.{ap, ◌∙◌}
use Rattle.machine.specs.Runs.{left_by, run_of-one}
use Rattle.machine.proofs.turns.turn.Goals as goal

pub returns-clause-left : goal.returns-clause-left
returns-clause-left c = ap left_by c.run-r.ensures.left ∙ run_of-one _ _
