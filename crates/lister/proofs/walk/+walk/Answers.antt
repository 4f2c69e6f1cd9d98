-- With both children found: the left one's part, lost or not, and then the right one's.
use Rattle.std.proofs.Common.{◌≡◌, suc, arith, sym, ◌∙◌}
use Rattle.lister.specs.Lists.{standing}
use Rattle.lister.proofs.Levels.{first_lost, second_behind}
use Rattle.lister.proofs.walk.+walk.Goals as goal

pub returns-in_err-next : goal.returns-in_err-next
unfolding standing
returns-in_err-next t c =
    let level : c.args.levels ≡ suc c.in_ok-below.below = omega arith in
    rw c.from_residual-in_err-next.ensures (first_lost _ _ _ _ _ _ _ (sym c.is_internal.ensures ∙ c.if-not-is_internal.false) level (sym c.read_child.ensures ∙ c.in_ok-a.was) (sym c.read_child-2.ensures ∙ c.in_ok-b.was) _ _ c.in_err-next.ensures)

pub returns : goal.returns
unfolding standing
returns t c =
    let level : c.args.levels ≡ suc c.in_ok-below.below = omega arith in
    c.walk-2.ensures ∙ second_behind _ _ _ _ _ _ _ (sym c.is_internal.ensures ∙ c.if-not-is_internal.false) level (sym c.read_child.ensures ∙ c.in_ok-a.was) (sym c.read_child-2.ensures ∙ c.in_ok-b.was) _ _ c.in_ok-next.ensures
