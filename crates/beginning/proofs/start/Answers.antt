-- `start` is `start_of`: spoiled tables are refused, and on sound ones the board alone decides (`sound_start`).
use mathlib.Core.Path.{sym, ◌∙◌}
use Rattle.laws.specs.Choice.{pick_false}
use Rattle.steps.specs.Turn.{start_of}
use Rattle.beginning.specs.Starts.{sound_start}
use Rattle.beginning.proofs.start.Goals as goal

pub returns-then-not-is_sound : goal.returns-then-not-is_sound
unfolding start_of
returns-then-not-is_sound c = rw c.refuse.ensures (sym (pick_false _ _ _ (sym c.is_sound.ensures ∙ c.if-not-is_sound.true)))

pub returns : goal.returns
returns c = rw c.admitted.ensures (sym (sound_start _ _ _ (sym c.is_sound.ensures ∙ c.if-not-is_sound.false)))
