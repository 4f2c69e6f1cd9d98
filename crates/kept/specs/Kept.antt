-- A start or a turn keeps sound tables sound, from any sound tables; a refused one leaves them as they are.
use Rattle.std.specs.Prelude.{ℕ, ◌-◌, ◌<◌, ◌≡◌, refl, true, ltb, Option, None, Some}
use Rattle.std.proofs.Common.{subst, arith, ltb-true}
use Rattle.laws.specs.Choice.{fork}
use Rattle.shapes.specs.declared.Key.{Key}
use Rattle.shapes.specs.declared.Place.TheVariants as place
use Rattle.shapes.specs.declared.Operation.{Operation}
use Rattle.shapes.specs.declared.Operation.TheVariants.{Insert, Delete, Find, Scan}
use Rattle.shapes.specs.Outcomes.{Decision}
use Rattle.tables.specs.World.{World, totals_of, tables_of, blank, idle, worker_at, pending_at}
use Rattle.tables.specs.Fresh.{Left}
use Rattle.sound.specs.Homes.{attempt_home, scan_home}
use Rattle.sound.specs.Sound.{sound_of}
use Rattle.sound.specs.Meaning.{PlaceSound, ConditionSound, WorkerSound, Sound}
use Rattle.sound.specs.Agree.{says-sound}
use Rattle.steps.specs.Turn.{settle, lists_of, step_on, step_of, turn_of, started, begin, start_of}
use Rattle.kept.specs.Good.{Good, hand-blank}
use Rattle.kept.specs.Settled.{home_of, listed_by, decide_good, settled-sound}
use Rattle.kept.specs.Spots.{at_set}

-- ---- the calls

module _ (s : World) (h : Sound s) where
  pub top_used : (w : ℕ) → w < (totals_of s).p → 0 < (worker_at s w).pending → (pending_at s w ((worker_at s w).pending - 1)).0 < (totals_of s).nodes
  top_used w l z = (h.workers w l).pending_used ((worker_at s w).pending - 1) (omega arith)

  settle-sound : (w : ℕ) (o : Operation) → w < (totals_of s).p → (e : Decision) → Good (tables_of s) (home_of o) (listed_by o) (worker_at s w).pending (worker_at s w).found e → Sound (settle s w (worker_at s w) o e).world
  unfolding settle
  settle-sound w o l None good = h
  settle-sound w o l (Some d) good = settled-sound s h w l o d good

  on_sound : (w : ℕ) → w < (totals_of s).p → (c : Option Operation) → (worker_at s w).operation ≡ c → Sound (step_on s w (worker_at s w) c).world
  unfolding step_on
  on_sound w l None e = h
  on_sound w l (Some o) e = settle-sound w o l _ (unfold lists_of in decide_good (tables_of s) h.shared (lists_of s w (worker_at s w)) o (worker_at s w).hand (h.workers w l).hand (top_used w l) (subst (ConditionSound s.records (worker_at s w).hand (worker_at s w).pending) e (h.workers w l).place))

  pub step_sound : (w : ℕ) → Sound (step_of s w).world
  unfolding step_of
  step_sound w = fork (λ (r : Left). Sound r.world) (ltb w (totals_of s).p) (λ l. on_sound w (ltb-true _ _ l) (worker_at s w).operation refl) (λ l. h)

  pub turn_sound : (w : ℕ) → Sound (turn_of s w).world
  unfolding turn_of
  turn_sound w = fork (λ (r : Left). Sound r.world) (sound_of s) (λ _. step_sound w) (λ _. h)

  -- an operation at its first place
  abbrev Fresh : Operation → Type 0
  Fresh o = (n : ℕ) → PlaceSound s.records blank n o

  started-sound : (w : ℕ) (o : Operation) → w < (totals_of s).p → Fresh o → Sound (started s w (worker_at s w) o)
  unfolding pending_at
  started-sound w o l f = unfold started in record {
    sizes = h.sizes;
    pending_lent = h.pending_lent;
    found_lent = h.found_lent;
    shared = h.shared;
    workers = λ u m. unfold worker_at in at_set (λ k. WorkerSound (totals_of s) s.records (pending_at (started s w (worker_at s w) o) u) k) s.board.workers w u _ idle
        (λ e i. record { most_pending = (h.workers w l).most_pending; most_found = omega arith; pending_used = λ j k. unfold started in rw e ((h.workers w l).pending_used j k); hand = hand-blank (tables_of s) h.shared; place = f (worker_at s w).pending })
        (λ e. h.workers u m);
  }

  begin-sound : (w : ℕ) (o : Operation) (c : Option Operation) → w < (totals_of s).p → Fresh o → Sound (begin s w (worker_at s w) o c).world
  unfolding begin
  begin-sound w o None l f = started-sound w o l f
  begin-sound w o (Some old) l f = h

  pub start_sound : (w : ℕ) (o : Operation) → Fresh o → Sound (start_of s w o).world
  unfolding start_of
  start_sound w o f = fork (λ (r : Left). Sound r.world) (sound_of s) (λ _. fork (λ (r : Left). Sound r.world) (ltb w (totals_of s).p) (λ l. begin-sound w o _ (ltb-true _ _ l) f) (λ _. h)) (λ _. h)

  pub insert-fresh : (k : Key) → Fresh (Insert k place.Counter74)
  unfolding attempt_home
  insert-fresh k n = (refl, tt)

  pub delete-fresh : (k : Key) → Fresh (Delete k place.Counter74)
  unfolding attempt_home
  delete-fresh k n = (refl, tt)

  pub find-fresh : (k : Key) → Fresh (Find k place.Counter74)
  unfolding attempt_home
  find-fresh k n = (refl, tt)

  pub scan-fresh : (a b : Key) → Fresh (Scan a b place.Counter130)
  unfolding scan_home
  scan-fresh a b n = (refl, tt)

-- ---- the same, of the test

pub turn_keeps_sound : (s : World) (w : ℕ) → sound_of s ≡ true → sound_of (turn_of s w).world ≡ true
turn_keeps_sound s w e = (says-sound _).back (turn_sound s ((says-sound s).out e) w)

pub start_keeps_sound : (s : World) (w : ℕ) (o : Operation) → ((n : ℕ) → PlaceSound s.records blank n o) → sound_of s ≡ true → sound_of (start_of s w o).world ≡ true
start_keeps_sound s w o f e = (says-sound _).back (start_sound s ((says-sound s).out e) w o f)
