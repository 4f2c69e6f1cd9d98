-- What holds after every history: the induction over its calls. And so the bound.
use Rattle.std.specs.Prelude.{ℕ, suc, ◌<◌, ◌≡◌, false, ◌&&◌, None, Ok}
use Rattle.std.proofs.Common.{◌∙◌, arith}
use mathlib.Core.List.{List, [], ◌∷◌}
use Rattle.laws.specs.Choice.{pick, pick_false, fork}
use Rattle.shapes.specs.declared.Place.TheVariants as place
use Rattle.shapes.specs.declared.Operation.TheVariants.{Insert, Delete, Find, Scan}
use Rattle.tables.specs.World.{World, totals_of}
use Rattle.tables.specs.Fresh.{Left, sizes_ok, lent_ok, fresh_of}
use Rattle.steps.specs.Turn.{turn_of, insert_of, delete_of, find_of, scan_of}
use Rattle.steps.specs.Kept.{is_refused}
use Rattle.kept.specs.Kept.{turn_sound, start_sound, insert-fresh, delete-fresh, find-fresh, scan-fresh}
use Rattle.bound.specs.Histories.{Call, insert, delete, find, scan, turn, asked, after, counted, turns_of}
use Rattle.bound.specs.Statement.{Bound}
use Rattle.bound.specs.Reached.{Reached, fresh_reached}
use Rattle.bound.specs.Starts.{own_count, insert-begins, delete-begins, find-begins, scan_begins, start_reached}
use Rattle.bound.specs.Turns.{turn_reached}
use Rattle.bound.proofs.Scans.{accepted, going, answers}

fresh-made : (n m p : ℕ) (lent : World) → (fresh_of n m p lent).outcome ≡ Ok None → Reached p (fresh_of n m p lent).world (λ w. 0)
unfolding fresh_of
fresh-made n m p lent = fork (λ (l : Left). l.outcome ≡ Ok None → Reached p l.world (λ w. 0)) (sizes_ok n m p && lent_ok n m p lent)
    (λ fits e. fresh_reached n m p lent fits)
    (λ _ e. let z : ◌≡◌ {A = ℕ} 0 1 = cc in absurd (omega arith))

module _ (p : ℕ) where
  call_reached : (s : World) (T : ℕ → ℕ) → Reached p s T → (c : Call) → Reached p (asked s c).world (λ u. pick (is_refused (asked s c).outcome) (T u) (counted u (T u) c))
  unfolding asked counted insert_of delete_of find_of scan_of
  call_reached s T R (insert w k) = start_reached p s T R w (Insert k place.Counter74) (insert-begins k) (start_sound s R.sound w _ (insert-fresh s R.sound k))
  call_reached s T R (delete w k) = start_reached p s T R w (Delete k place.Counter74) (delete-begins k) (start_sound s R.sound w _ (delete-fresh s R.sound k))
  call_reached s T R (find w k) = start_reached p s T R w (Find k place.Counter74) (find-begins k) (start_sound s R.sound w _ (find-fresh s R.sound k))
  call_reached s T R (scan w a b) = start_reached p s T R w (Scan a b place.Counter130) (scan_begins a b) (start_sound s R.sound w _ (scan-fresh s R.sound a b))
  call_reached s T R (turn w) = turn_reached p s T R w (turn_sound s R.sound w)

  pub reached : (s : World) → Reached p s (λ w. 0) → (h : List Call) → Reached p (after s h) (λ w. turns_of s w h)
  unfolding after turns_of
  reached s R [] = R
  reached s R (c ∷ h) = call_reached (after s h) (λ w. turns_of s w h) (reached s R h) c

-- an accepted turn of its own is one more
turn_counts : (s : World) (w : ℕ) (h : List Call) → is_refused (turn_of (after s h) w).outcome ≡ false → turns_of s w (turn w ∷ h) ≡ suc (turns_of s w h)
unfolding turns_of asked counted
turn_counts s w h e = pick_false _ _ _ e ∙ own_count w (suc (turns_of s w h)) (turns_of s w h)

-- demand 3
pub bound : Bound
unfolding Bound
bound n m p lent made h w i l P =
    let s : World = (fresh_of n m p lent).world in
    let R : Reached p (after s h) (λ u. turns_of s u h) = reached p s (fresh-made n m p lent made) h in
    let in_p : w < (totals_of (after s h)).p = rw R.workers l in
    let yes : is_refused (turn_of (after s h) w).outcome ≡ false = accepted p (after s h) _ R w i in_p P in
    record {
      accepted = yes;
      going = going p (after s h) _ R w i in_p P;
      answers = λ a e. rw (turn_counts s w h yes) (unfold after asked in answers p (after s h) _ R w i in_p P a e);
    }
