use Rattle.std.proofs.Common.{◌≡◌, refl, sym, ◌∙◌, ◌-◌, arith}
use Rattle.lending.specs.Lent.{same_lists, same_lists-through}
use Rattle.running.proofs.Turns.{goes, ends_by, ends}
use Rattle.running.proofs.steps.Goals as goal

pub loop-turns-init : goal.loop-turns-init
loop-turns-init c = let whole : c.args.n - 0 ≡ c.args.n = omega arith in record { same_lists = same_lists c.args.lent.now; left = rw whole refl }

pub returns-then-not-is_going-clause-same_lists : goal.returns-then-not-is_going-clause-same_lists
returns-then-not-is_going-clause-same_lists c = same_lists-through c.step-reply.new.lent c.loop-turns.lent c.args.lent.now c.step-reply.ensures.same_lists c.loop-turns.invariant.same_lists

pub returns-then-not-is_going-clause-left : goal.returns-then-not-is_going-clause-left
returns-then-not-is_going-clause-left c = ends_by _ c.loop-turns.turns _ _ _ c.step-reply.ensures.left c.loop-turns-test.true _ c.counted.ensures (sym c.is_going.ensures ∙ c.if-not-is_going.true) ∙ c.loop-turns.invariant.left

pub loop-turns-preserved : goal.loop-turns-preserved
loop-turns-preserved c = record {
  same_lists = same_lists-through c.step-reply.new.lent c.loop-turns.lent c.args.lent.now c.step-reply.ensures.same_lists c.loop-turns.invariant.same_lists;
  left = goes _ c.loop-turns.turns _ _ _ c.step-reply.ensures.left c.loop-turns-test.true (sym c.is_going.ensures ∙ c.if-not-is_going.false) ∙ c.loop-turns.invariant.left;
}

pub returns-clause-left : goal.returns-clause-left
returns-clause-left c = let all : c.loop-turns.turns ≡ c.args.n = omega (arith, c.loop-turns-test.false, c.loop-turns.auto.turns-end) in ends _ c.loop-turns.turns _ _ all ∙ c.loop-turns.invariant.left
