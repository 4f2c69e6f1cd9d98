-- A good step of one worker keeps sound tables sound.
use Prim.Native.Nat.{ℕ, zero, suc, ◌+◌, ◌-◌, ◌≤◌, ◌<◌}
use Rattle.std.specs.Prelude.{◌≡◌, ◌≢◌, List, Bool, true, get_or, Option, None, Some}
use Rattle.std.proofs.Math.Path.{refl, ap}
use native.Mathlib.Omega.{arith}
use Rattle.std.proofs.Math.Decide.{dec_le}
use Rattle.std.proofs.Math.ListN.{length, get_or-eq_default}
use Rattle.std.proofs.Math.Seq.{get_or-set_other}
use Rattle.shapes.specs.declared.Locals.{Locals}
use Rattle.shapes.specs.declared.Worker.{Worker}
use Rattle.shapes.specs.declared.Kind.TheVariants as kind
use Rattle.shapes.specs.declared.Place.{Place}
use Rattle.shapes.specs.declared.Operation.{Operation}
use Rattle.shapes.specs.declared.Operation.TheVariants.{Insert, Delete, Find, Scan}
use Rattle.shapes.specs.declared.PendingChange.{PendingChange}
use Rattle.shapes.specs.declared.PendingChange.TheVariants as pending
use Rattle.shapes.specs.declared.Next.{Next}
use Rattle.shapes.specs.declared.Next.TheVariants as next
use Rattle.shapes.specs.declared.Step.{Step}
use Rattle.shapes.specs.declared.Key.{Key}
use Rattle.tables.specs.Names.{node}
use Rattle.tables.specs.World.{Tables, World, totals_of, tables_of, idle, worker_at, spot, pending_at}
use Rattle.sound.specs.Homes.{listed, attempt_home, scan_home}
use Rattle.sound.specs.Meaning.{HandSound, Within, PlaceSound, WorkerSound, TablesSound, Sound}
use Rattle.steps.specs.Scan.{Lists}
use Rattle.steps.specs.Decide.{decide}
use Rattle.steps.specs.Apply.{apply}
use Rattle.steps.specs.Turn.{moved, pending_left, found_left, pushed, worker_next, settled}
use Rattle.kept.specs.Later.{Grows, worker_later}
use Rattle.kept.specs.Effects.{Kept, effect_keeps}
use Rattle.kept.specs.Good.{PendingFits, FoundFits, NextFits, GoodStep, Good}
use Rattle.kept.specs.Attempts.{attempt_good}
use Rattle.kept.specs.Scanning.{scan_good}
use Rattle.kept.specs.Spots.{at_set, length-pushed, length-added, spot-within, spot_other, spot_same}

-- ---- the places and the record of an operation

unfoldable pub home_of : Operation → Place → Bool
home_of (Insert k q) = attempt_home kind.Insert
home_of (Delete k q) = attempt_home kind.Delete
home_of (Find k q) = attempt_home kind.Find
home_of (Scan a b q) = scan_home

unfoldable pub listed_by : Operation → ℕ
listed_by (Insert k q) = listed kind.Insert
listed_by (Delete k q) = listed kind.Delete
listed_by (Find k q) = listed kind.Find
listed_by (Scan a b q) = 0

-- a decision of a sound worker is good
pub decide_good : (s : Tables) → TablesSound s → (ls : Lists) (o : Operation) (v : Locals) → HandSound s.totals v → (0 < ls.pending → ls.top.0 < s.totals.nodes) → PlaceSound s.records v ls.pending o → Good s (home_of o) (listed_by o) ls.pending ls.found (decide s ls o v)
unfolding decide home_of listed_by
decide_good s h ls (Insert k q) v hand top at = attempt_good s h kind.Insert k v hand ls.pending ls.found q at
decide_good s h ls (Delete k q) v hand top at = attempt_good s h kind.Delete k v hand ls.pending ls.found q at
decide_good s h ls (Find k q) v hand top at = attempt_good s h kind.Find k v hand ls.pending ls.found q at
decide_good s h ls (Scan a b q) v hand top at = scan_good s h v hand ls top a b q at

pub moved-sound : (rs : List ℕ) (v : Locals) (n : ℕ) (o : Operation) (q : Place) → (home_of o q ≡ true) × Within rs (listed_by o) v n q → PlaceSound rs v n (moved o q)
unfolding moved home_of listed_by
moved-sound rs v n (Insert k old) q h = h
moved-sound rs v n (Delete k old) q h = h
moved-sound rs v n (Find k old) q h = h
moved-sound rs v n (Scan a b old) q h = h

-- ---- one worker's turn

module _ (s : World) (h : Sound s) (w : ℕ) (in_p : w < (totals_of s).p) (o : Operation) (d : Step) (good : GoodStep (tables_of s) (home_of o) (listed_by o) (worker_at s w).pending (worker_at s w).found d) where
  kept : Kept (tables_of s) (apply d.effect (tables_of s))
  kept = effect_keeps d.effect (tables_of s) h.shared good.fits

  before : WorkerSound (totals_of s) s.records (pending_at s w) (worker_at s w)
  before = h.workers w in_p

  grows : Grows (totals_of s) (apply d.effect (tables_of s)).totals
  grows = kept.later.totals

  -- the pending nodes of this worker, as they will stand
  own_pending : (i : ℕ) → i < pending_left (worker_at s w).pending d.pending → get_or (pushed s.pending (spot (totals_of s) w (worker_at s w).pending) d.pending) (spot (totals_of s) w i) 0 < (totals_of s).nodes
  own_pending i l = by d.pending good.pending l
    where
      by : (c : PendingChange) → PendingFits (totals_of s) (worker_at s w).pending c → i < pending_left (worker_at s w).pending c → get_or (pushed s.pending (spot (totals_of s) w (worker_at s w).pending) c) (spot (totals_of s) w i) 0 < (totals_of s).nodes
      by pending.Keep p m = unfold pending_at pushed pending_left in before.pending_used i m
      by (pending.Push x) p m = unfold pushed in at_set (λ y. y < (totals_of s).nodes) s.pending _ _ x.0 0 (λ e f. p.1) (λ e. unfold pending_at in before.pending_used i (lower (unfold pending_left in m) e))
        where
          lower : i < (worker_at s w).pending + 1 → (spot (totals_of s) w i ≡ spot (totals_of s) w (worker_at s w).pending → length s.pending ≤ spot (totals_of s) w (worker_at s w).pending) → i < (worker_at s w).pending
          lower m e = elim (dec_le (suc i) (worker_at s w).pending) [
            | yes a ↦ a
            | no a ↦
                let same : i ≡ (worker_at s w).pending = omega arith in
                let out : length s.pending ≤ spot (totals_of s) w (worker_at s w).pending = e (ap (spot (totals_of s) w) same) in
                let inside : spot (totals_of s) w (worker_at s w).pending < length s.pending = spot-within (totals_of s) w _ _ in_p p.0 h.pending_lent in
                absurd (omega arith)
          ]
      by pending.Pop p m = unfold pending_at pushed pending_left in before.pending_used i (let l : i < (worker_at s w).pending - 1 = unfold pending_left in m in omega arith)

  -- and of another
  other_pending : (u i : ℕ) → u ≢ w → i < (totals_of s).n → get_or (pushed s.pending (spot (totals_of s) w (worker_at s w).pending) d.pending) (spot (totals_of s) u i) 0 ≡ get_or s.pending (spot (totals_of s) u i) 0
  other_pending u i ne l = by d.pending good.pending
    where
      by : (c : PendingChange) → PendingFits (totals_of s) (worker_at s w).pending c → get_or (pushed s.pending (spot (totals_of s) w (worker_at s w).pending) c) (spot (totals_of s) u i) 0 ≡ get_or s.pending (spot (totals_of s) u i) 0
      by pending.Keep p = unfold pushed in refl
      by (pending.Push x) p = unfold pushed in get_or-set_other s.pending _ _ x.0 0 (spot_other (totals_of s) w u _ i p.0 l ne)
      by pending.Pop p = unfold pushed in refl

  most_left : pending_left (worker_at s w).pending d.pending ≤ (totals_of s).n
  most_left = by d.pending good.pending
    where
      by : (c : PendingChange) → PendingFits (totals_of s) (worker_at s w).pending c → pending_left (worker_at s w).pending c ≤ (totals_of s).n
      by pending.Keep p = unfold pending_left in before.most_pending
      by (pending.Push x) p = unfold pending_left in omega (arith, p.0)
      by pending.Pop p = unfold pending_left in omega (arith, before.most_pending)

  most_kept : found_left (worker_at s w).found d.found ≤ (totals_of s).n
  most_kept = by d.found good.found
    where
      by : (c : Option Key) → FoundFits (totals_of s) (worker_at s w).found c → found_left (worker_at s w).found c ≤ (totals_of s).n
      by None p = unfold found_left in before.most_found
      by (Some k) p = unfold found_left in omega arith

  -- the worker itself
  own_sound : WorkerSound (apply d.effect (tables_of s)).totals (apply d.effect (tables_of s)).records (pending_at (settled s w (worker_at s w) o d) w) (worker_next (worker_at s w) o d d.next)
  own_sound = by d.next good.next
    where
      by : (q : Next) → NextFits (home_of o) (listed_by o) (apply d.effect (tables_of s)).records d.hand (pending_left (worker_at s w).pending d.pending) q → WorkerSound (apply d.effect (tables_of s)).totals (apply d.effect (tables_of s)).records (pending_at (settled s w (worker_at s w) o d) w) (worker_next (worker_at s w) o d q)
      by (next.At q) at = unfold worker_next in record {
        most_pending = omega (arith, most_left, grows.n);
        most_found = omega (arith, most_kept, grows.n);
        pending_used = λ i l. unfold pending_at settled in rw (spot_same (totals_of s) (apply d.effect (tables_of s)).totals w i grows.n) (omega (arith, own_pending i l, grows.nodes));
        hand = good.hand;
        place = moved-sound _ d.hand _ o q at;
      }
      by (next.Answers a) at = unfold worker_next in record {
        most_pending = omega arith;
        most_found = omega (arith, most_kept, grows.n);
        pending_used = λ i l. absurd (omega arith);
        hand = good.hand;
        place = tt;
      }

  -- another worker
  other_sound : (u : ℕ) → u < (totals_of s).p → (u ≡ w → length s.board.workers ≤ w) → WorkerSound (apply d.effect (tables_of s)).totals (apply d.effect (tables_of s)).records (pending_at (settled s w (worker_at s w) o d) u) (worker_at s u)
  other_sound u l out = worker_later (tables_of s) _ kept.later (pending_at s u) _ (worker_at s u) same (h.workers u l)
    where
      same : (i : ℕ) → i < (worker_at s u).pending → pending_at (settled s w (worker_at s w) o d) u i ≡ pending_at s u i
      same i m = unfold pending_at settled in ap node (rw (spot_same (totals_of s) (apply d.effect (tables_of s)).totals u i grows.n) (other_pending u i differs (omega (arith, (h.workers u l).most_pending))))
        where
          differs : u ≢ w
          differs e =
              let none : worker_at s u ≡ idle = unfold worker_at in get_or-eq_default s.board.workers idle (omega (arith, out e)) in
              let zero : (worker_at s u).pending ≡ 0 = ap (λ (k : Worker). k.pending) none in
              omega arith

  pub settled-sound : Sound (settled s w (worker_at s w) o d)
  settled-sound = unfold settled in record {
    sizes = rw (grows.n, grows.m, grows.p) h.sizes;
    pending_lent = rw (length-pushed s.pending (spot (totals_of s) w (worker_at s w).pending) d.pending, grows.n, grows.p) h.pending_lent;
    found_lent = rw (length-added s.found (spot (totals_of s) w (worker_at s w).found) d.found, grows.n, grows.p) h.found_lent;
    shared = kept.sound;
    workers = λ u l. unfold worker_at in at_set (λ k. WorkerSound (apply d.effect (tables_of s)).totals (apply d.effect (tables_of s)).records (pending_at (settled s w (worker_at s w) o d) u) k) s.board.workers w u (worker_next (worker_at s w) o d d.next) idle
        (λ e m. rw e own_sound)
        (λ e. other_sound u (rw (← grows.p) l) e);
  }
