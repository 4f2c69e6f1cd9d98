-- `run` is `run_of`: no turn, spoiled tables, or the loop, whose one look stands for all (`checked_once`).
use Prim.Native.Nat.{◌<◌}
use mathlib.Core.Path.{refl, sym, ap, ◌∙◌}
use native.Mathlib.Omega.{arith}
use Rattle.sound.specs.Sound.{sound_of}
use Rattle.steps.specs.Turn.{run_by, run_of}
use Rattle.machine.specs.Runs.{checked_once, spoiled_run}
use Rattle.machine.proofs.turns.run.Goals as goal

pub returns-then-n-eq0-clause-left : goal.returns-then-n-eq0-clause-left
unfolding run_of run_by
returns-then-n-eq0-clause-left c = rw c.if-n-eq0.true refl

pub returns-then-not-is_sound-clause-left : goal.returns-then-not-is_sound-clause-left
unfolding run_of
returns-then-not-is_sound-clause-left c = let some : 0 < c.args.n = omega (arith, c.if-n-eq0.false) in sym (spoiled_run _ _ _ some (sym (c.is_sound.ensures ∙ ap sound_of (c.shown.ensures c.args.board)) ∙ c.if-not-is_sound.true))

pub returns-clause-left : goal.returns-clause-left
unfolding run_of
returns-clause-left c = c.steps.ensures.left ∙ sym (checked_once _ _ _ _ (sym (c.is_sound.ensures ∙ ap sound_of (c.shown.ensures c.args.board)) ∙ c.if-not-is_sound.false))
