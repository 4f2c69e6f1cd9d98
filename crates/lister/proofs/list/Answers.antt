-- The walk tried counted the keys, and the walk made wrote them.
use Rattle.std.proofs.Common.{◌≡◌, Some, sym, ◌∙◌}
use Rattle.lister.specs.Lists.{left, standing}
use Rattle.lister.proofs.Whole.{made}
use Rattle.lister.proofs.list.Goals as goal

pub returns : goal.returns
unfolding left standing
returns c =
    let counted : c.walk.result ≡ Some c.in_ok-end.end = c.in_ok-end.ensures.ok_part in
    made _ _ _ _ _ _ _ c.walk-2.result (sym c.is_sound.ensures ∙ c.if-not-is_sound.false) c.if-keys-t.false (rw counted at c.walk.ensures) c.walk-2.ensures
