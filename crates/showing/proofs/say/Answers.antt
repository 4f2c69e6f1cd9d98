-- A line stands within its page.
use Rattle.std.proofs.Common.{sym}
use Rattle.std.proofs.lemmas.List.{length-take-le}
use Rattle.showing.proofs.Parts.{spelt_within}
use Rattle.showing.proofs.say.Goals as goal

pub slice_bounds-page-end : goal.slice_bounds-page-end
slice_bounds-page-end g c = spelt_within _ _ _ _ c.spell-size.ensures

pub slice_bounds-write_all-end : goal.slice_bounds-write_all-end
slice_bounds-write_all-end g c = sym (length-take-le _ _ (spelt_within _ _ _ _ c.spell-size.ensures))
