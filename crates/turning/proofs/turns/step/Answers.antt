-- `step` is `step_within`: the test chooses, and says what the turn asks.
use mathlib.Core.Path.{sym, ◌∙◌}
use Rattle.laws.specs.Choice.{pick_true, pick_false}
use Rattle.turning.specs.Fits.{step_within}
use Rattle.turning.proofs.turns.step.Goals as goal

pub returns-then-not-fits-clause-left : goal.returns-then-not-fits-clause-left
unfolding step_within
returns-then-not-fits-clause-left c = rw c.refuse.ensures (sym (pick_false _ _ _ (sym c.fits.ensures ∙ c.if-not-fits.true)))

pub fitting_step-requires : goal.fitting_step-requires
unfolding step_within
fitting_step-requires c = sym c.fits.ensures ∙ c.if-not-fits.false

pub returns-clause-left : goal.returns-clause-left
unfolding step_within
returns-clause-left c = c.fitting_step.ensures.left ∙ sym (pick_true _ _ _ (sym c.fits.ensures ∙ c.if-not-fits.false))
