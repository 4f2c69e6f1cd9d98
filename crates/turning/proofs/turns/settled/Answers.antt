-- `settled` is the definition of the same name: both lists, the tables, then the worker.
use mathlib.Core.Path.{refl, ◌∙◌}
use Rattle.effects.specs.Sizes.{apply-within_sizes}
use Rattle.steps.specs.Turn.{settled}
use Rattle.turning.proofs.turns.settled.Goals as goal

pub returns-clause-left : goal.returns-clause-left
unfolding settled
returns-clause-left c = rw (c.with_worker.ensures, c.worker_next.ensures, ← (c.apply-after.ensures ∙ apply-within_sizes _ _ c.requires.within_sizes), c.push.ensures, c.add.ensures, c.spot.ensures, c.spot-2.ensures) refl
