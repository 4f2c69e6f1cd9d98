-- `fitting_step` is `step_of`: the worker is looked up, and takes its turn; that it fits gives what the turn asks.
use mathlib.Core.Path.{refl}
use borrow.Author.Tests.{lt-ltb, le-ltb}
use Rattle.laws.specs.Choice.{pick}
use Rattle.tables.specs.World.{worker_at}
use Rattle.steps.specs.Turn.{step_of}
use Rattle.turning.proofs.Fits.{turn_fits}
use Rattle.turning.proofs.turns.fitting_step.Goals as goal

pub returns-then-board-w-clause-left : goal.returns-then-board-w-clause-left
unfolding step_of pick
returns-then-board-w-clause-left c = rw (le-ltb _ _ c.if-board-w.true, c.refuse.ensures) refl

pub step_on-requires : goal.step_on-requires
unfolding worker_at
step_on-requires c =
    let enough = turn_fits _ _ c.requires c.if-board-w.false in
    record {
      within_sizes = enough.0;
      pending_le_most_n = rw c.worker_of-k.ensures enough.1.0;
      found_le_most_n = rw c.worker_of-k.ensures enough.1.1;
    }

pub returns-clause-left : goal.returns-clause-left
unfolding step_of pick worker_at
returns-clause-left c = rw (lt-ltb _ _ c.if-board-w.false, ← c.worker_of-k.ensures) c.step_on.ensures.left
