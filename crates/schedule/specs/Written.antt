-- A schedule written, its opening and then each command behind the one before it: what is left. That it reads back: proofs/Written.antt.
use Rattle.std.specs.Prelude.{◌≡◌, refl, Bool, true, false, ◌&&◌, leb, take, drop, set, Ok, Err}
use Rattle.std.proofs.Common.{◌∙◌, add_assoc, le-leb}
use mathlib.Core.List.{List, [], ◌∷◌, ◌++◌}
use Prim.Native.Nat.{ℕ, suc, ◌+◌, ◌≤◌, ◌<◌}
use native.Mathlib.Omega.{arith}
use Rattle.std.proofs.Math.ListN.{length, length-append}
use Rattle.std.proofs.lemmas.List.Edits.{sets, sets-eq}
use Rattle.std.proofs.Math.Seq.{length-sets, take-append_seam}
use Rattle.std.proofs.lemmas.Bool.{lt-leb}
use Rattle.laws.specs.Choice.{pick, pick_true, pick_false, fork}
use Rattle.tables.specs.Fresh.{sizes_ok}
use Rattle.schedule.specs.Numbers.{most_bytes}
use Rattle.schedule.specs.Format.{command_bytes, opening_bytes, Schedule, all_bytes, schedule_bytes, EachProper}
use Rattle.schedule.specs.Writing.{Left, left, entered, write_opening, write_command, on_answer, on_end, write_commands, write_schedule}
use Rattle.schedule.specs.declared.Command.{Command}
use Rattle.schedule.specs.declared.Refusal.{Refusal}
use Rattle.schedule.specs.declared.Refusal.TheVariants.{File, Size}

-- ---- one writing

pub enters : (bytes buffer : List ℕ) (at : ℕ) → at + length bytes ≤ most_bytes → at + length bytes ≤ length buffer → entered true bytes buffer at ≡ left (Ok (at + length bytes)) (sets buffer at bytes)
unfolding entered
enters bytes buffer at few room = pick_true _ _ _ (le-leb (at + length bytes) most_bytes few) ∙ pick_true _ _ _ (le-leb (at + length bytes) (length buffer) room)

-- 2: a buffer too short, for what is no matter of 8
pub too_short : (bytes buffer : List ℕ) (at : ℕ) → at + length bytes ≤ most_bytes → length buffer < at + length bytes → entered true bytes buffer at ≡ left (Err Size) buffer
unfolding entered
too_short bytes buffer at few short = pick_true _ _ _ (le-leb (at + length bytes) most_bytes few) ∙ pick_false _ _ _ (lt-leb (at + length bytes) (length buffer) short)

-- 8: an end past byte 65,536, or what has no bytes, whatever the buffer
pub past_the_end : (fine : Bool) (bytes buffer : List ℕ) (at : ℕ) → most_bytes < at + length bytes → entered fine bytes buffer at ≡ left (Err File) buffer
unfolding entered pick
past_the_end true bytes buffer at past = pick_false _ _ _ (lt-leb (at + length bytes) most_bytes past)
past_the_end false bytes buffer at past = refl

pub not_fine : (bytes buffer : List ℕ) (at : ℕ) → entered false bytes buffer at ≡ left (Err File) buffer
unfolding entered pick
not_fine bytes buffer at = refl

abbrev Keeps : List ℕ → Refusal → Left → Type 0
Keeps buffer r l = l.answer ≡ Err r → l.buffer ≡ buffer

-- a refusal leaves everything as before
pub refusal_keeps : (fine : Bool) (bytes buffer : List ℕ) (at : ℕ) (r : Refusal) → (entered fine bytes buffer at).answer ≡ Err r → (entered fine bytes buffer at).buffer ≡ buffer
unfolding entered
refusal_keeps fine bytes buffer at r =
    fork (Keeps buffer r) (fine && leb (at + length bytes) most_bytes)
    (λ t. fork (Keeps buffer r) (leb (at + length bytes) (length buffer)) (λ u e. let z : ◌≡◌ {A = ℕ} 0 1 = cc in absurd (omega arith)) (λ u e. refl))
    (λ t e. refl)

-- ---- one behind another

pub sets-append : (xs ys buffer : List ℕ) (at : ℕ) → sets (sets buffer at xs) (at + length xs) ys ≡ sets buffer at (xs ++ ys)
sets-append [] ys buffer at = let e : at + 0 ≡ at = omega arith in rw e
sets-append (x ∷ xs) ys buffer at = let e : at + suc (length xs) ≡ suc at + length xs = omega arith in rw e (sets-append xs ys (set buffer at x) (suc at))

pub commands_written : (cs : List Command) (buffer : List ℕ) (at : ℕ) → EachProper cs → at + length (all_bytes cs) ≤ most_bytes → at + length (all_bytes cs) ≤ length buffer → write_commands cs buffer at ≡ left (Ok (at + length (all_bytes cs))) (sets buffer at (all_bytes cs))
unfolding all_bytes EachProper write_commands write_command on_end on_answer
commands_written [] buffer at each few room = let e : at + 0 ≡ at = omega arith in rw e
commands_written (c ∷ cs) buffer at each few room =
    let both : length (command_bytes c ++ all_bytes cs) ≡ length (command_bytes c) + length (all_bytes cs) = length-append (command_bytes c) (all_bytes cs) in
    let after : List ℕ = sets buffer at (command_bytes c) in
    let same : length after ≡ length buffer = length-sets buffer at (command_bytes c) in
    rw (each.0.some, enters (command_bytes c) buffer at (omega arith) (omega arith), both, ← add_assoc at (length (command_bytes c)) (length (all_bytes cs)), ← sets-append (command_bytes c) (all_bytes cs) buffer at)
    (commands_written cs after (at + length (command_bytes c)) each.1 (omega arith) (omega arith))

-- ---- the whole

-- what stands at the front of the buffer
pub front : (bytes buffer : List ℕ) → length bytes ≤ length buffer → take (length bytes) (sets buffer 0 bytes) ≡ bytes
front bytes buffer room = rw (sets-eq bytes buffer 0 (omega arith)) (take-append_seam bytes (drop (0 + length bytes) buffer))

module _ (x : Schedule) (buffer : List ℕ) (sizes : sizes_ok x.n x.m x.p ≡ true) (each : EachProper x.commands) (few : length (schedule_bytes x) ≤ most_bytes) (room : length (schedule_bytes x) ≤ length buffer) where
  pub schedule_written : write_schedule x buffer ≡ left (Ok (length (schedule_bytes x))) (sets buffer 0 (schedule_bytes x))
  unfolding schedule_bytes write_schedule write_opening on_end on_answer
  schedule_written =
      let head : List ℕ = opening_bytes x.n x.m x.p in
      let tail : List ℕ = all_bytes x.commands in
      let both : length (head ++ tail) ≡ length head + length tail = length-append head tail in
      let same : length (sets buffer 0 head) ≡ length buffer = length-sets buffer 0 head in
      let begin : 0 + length head ≡ length head = omega arith in
      rw (sizes, enters head buffer 0 (omega arith) (omega arith), both, ← sets-append head tail buffer 0, begin)
      (commands_written x.commands (sets buffer 0 head) (length head) each (omega arith) (omega arith))
