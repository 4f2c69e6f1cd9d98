-- `step_on` is the definition of its name: an idle worker is refused, a crooked decision too; else the decision is settled.
use Rattle.tables.specs.World.{pending_at}
use Rattle.steps.specs.Turn.{step_on, lists_of}
use mathlib.Core.Path.{refl, sym, ◌∙◌}
use Rattle.lending.specs.Lent.{shown_world}
use Rattle.turning.proofs.Fits.{left_same, goes_on, is_crooked, decided_on}
use Rattle.turning.proofs.turns.step_on.Goals as goal

pub returns-in_default-clause-left : goal.returns-in_default-clause-left
unfolding step_on
returns-in_default-clause-left c = rw (c.in_default.is, c.refuse.ensures) refl

pub returns-in_default-decision-clause-left : goal.returns-in_default-decision-clause-left
unfolding lists_of pending_at
returns-in_default-decision-clause-left c = rw c.refuse-in_default-decision.ensures (sym (is_crooked _ _ _ _ _ c.in-Some.is (decided_on (shown_world c.args.board c.shown-shown.result) _ c.args.w c.args.k c.in-Some.o _ (c.shown-shown.ensures c.args.board) (rw (← c.top.ensures) (sym c.decide-decision.ensures ∙ c.in_default-decision.is)))))

pub returns-clause-left : goal.returns-clause-left
unfolding lists_of pending_at
returns-clause-left c = left_same c.settled.ensures.left c.outcome_of.ensures ∙ sym (goes_on _ _ _ _ _ _ c.in-Some.is (decided_on (shown_world c.args.board c.shown-shown.result) _ c.args.w c.args.k c.in-Some.o _ (c.shown-shown.ensures c.args.board) (rw (← c.top.ensures) (sym c.decide-decision.ensures ∙ c.in-Some-decision.is))))
