-- A run looks at the tables once: an accepted turn keeps sound tables sound, so every later look would find them so.
use Rattle.std.specs.Prelude.{ℕ, zero, suc, ◌<◌, ◌≡◌, refl, true, false, None, Some, Ok, Err}
use Rattle.std.proofs.Common.{arith, sym, ap, subst, ◌∙◌}
use Rattle.laws.specs.Choice.{pick_true, pick_false}
use Rattle.shapes.specs.declared.Refusal.TheVariants as refusal
use Rattle.shapes.specs.Outcomes.{Outcome}
use Rattle.tables.specs.World.{World}
use Rattle.tables.specs.Fresh.{Left, refused}
use Rattle.sound.specs.Sound.{sound_of}
use Rattle.steps.specs.Turn.{step_of, turn_of, Ran, goes_on, run_by, run_from, run_of}
use Rattle.kept.specs.Kept.{turn_keeps_sound}
use Rattle.turning.specs.Fits.{step_within, sound_step}
use Rattle.running.specs.Loop.{steps_from}

-- on sound tables a turn is a step
pub turn_steps : (s : World) (w : ℕ) → sound_of s ≡ true → turn_of s w ≡ step_within s w
unfolding turn_of
turn_steps s w h = pick_true _ _ _ h ∙ sym (sound_step s w h)

step_keeps_sound : (s : World) (w : ℕ) → sound_of s ≡ true → sound_of (step_within s w).world ≡ true
step_keeps_sound s w h = subst (λ (d : Left). sound_of d.world ≡ true) (turn_steps s w h) (turn_keeps_sound s w h)

-- looked at once is looked at before every turn
pub checked_once : (k n w : ℕ) (s : World) → sound_of s ≡ true → run_from k n w s ≡ steps_from k n w s
unfolding run_by
checked_once zero n w s h = refl
checked_once (suc k) n w s h =
    ap (λ (d : Left). goes_on d.outcome d.world n (run_from k (suc n) w d.world)) (turn_steps s w h) ∙
    ap (λ (rest : Ran). goes_on (step_within s w).outcome (step_within s w).world n rest) (checked_once k (suc n) w (step_within s w).world (step_keeps_sound s w h))

-- refusal 1: spoiled tables refuse the first turn, and no turn is counted
pub spoiled_run : (k w : ℕ) (s : World) → 0 < k → sound_of s ≡ false → run_from k 0 w s ≡ record { world = s; outcome = Err refusal.Table; turns = 0 }
unfolding run_by turn_of goes_on
spoiled_run zero w s l h = absurd (omega arith)
spoiled_run (suc k) w s l h = rw (pick_false (sound_of s) (step_of s w) (refused s refusal.Table) h) refl

-- a turn is a run of one, its count forgotten
abbrev pub left_by : Ran → Left
left_by r = record { world = r.world; outcome = r.outcome }

going : (d : Left) (o : Outcome) → left_by (goes_on o d.world 0 (record { world = d.world; outcome = Ok None; turns = 1 })) ≡ record { world = d.world; outcome = o }
unfolding goes_on
going d (Ok None) = refl
going d (Ok (Some a)) = refl
going d (Err r) = refl

pub run_of-one : (s : World) (w : ℕ) → left_by (run_of 1 s w) ≡ turn_of s w
unfolding run_of run_by
run_of-one s w = going (turn_of s w) (turn_of s w).outcome
