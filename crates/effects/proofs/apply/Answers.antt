-- `apply` is `apply_within`: the test chooses, and says what carrying out asks.
use mathlib.Core.Path.{sym, ◌∙◌}
use Rattle.laws.specs.Choice.{pick_true, pick_false}
use Rattle.effects.specs.Sizes.{apply_within, says-within}
use Rattle.effects.proofs.apply.Goals as goal

pub returns-then-not-within : goal.returns-then-not-within
unfolding apply_within
returns-then-not-within c = sym (pick_false _ _ _ (sym c.within.ensures ∙ c.if-not-within.true))

pub carried_out-requires : goal.carried_out-requires
carried_out-requires c = (says-within _).out (sym c.within.ensures ∙ c.if-not-within.false)

pub returns : goal.returns
unfolding apply_within
returns c = c.carried_out.ensures ∙ sym (pick_true _ _ _ (sym c.within.ensures ∙ c.if-not-within.false))
