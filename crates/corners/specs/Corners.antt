-- Where room, phases, keys and lists come to an end: what P6, P7 and P10 leave open.
use Rattle.std.specs.Prelude.{ℕ, ◌≡◌, refl, true, ◌&&◌, List, [], ◌∷◌, take, ℤ, pos, negsuc, None, Some, Ok}
use Rattle.shapes.specs.declared.Answer.TheVariants.{Yes, No, Keys, NoRoom, NoPhase}
use Rattle.tables.specs.World.{World, tables_of, blank, idle, worker_at}
use Rattle.sound.specs.Sound.{sound_of}
use Rattle.steps.specs.Opened.{steps_opened}
use Rattle.steps.specs.Play.{fresh, insert, delete, find, scans, shown, show, took, done, ends, same_list, same_tables}
use Rattle.steps.specs.Hands.{with_counter, with_worker}
use Rattle.steps.specs.Deletes.{two, three}

-- ---- the last phase, on a board made by hand

unfoldable pub at_phase : ℕ → World
at_phase c = with_counter c (fresh 16 4)

-- two scans read 65,534; one increments it, then the other comes to its increment
unfoldable pub both_scan : World
both_scan =
    let a = took 1 0 (scans 0 (pos 0) (pos 9) (at_phase 65534)) in
    done 1 (scans 1 (pos 0) (pos 9) a)

-- ---- the least and the greatest key

-- 2,147,483,647, and −2,147,483,648 = −(2,147,483,647 + 1)
abbrev pub greatest : ℤ
greatest = pos 2147483647

abbrev pub least : ℤ
least = negsuc 2147483647

unfoldable pub with_greatest : World
with_greatest = done 0 (insert 0 greatest (fresh 16 8))

unfoldable pub without_greatest : World
without_greatest = done 0 (delete 0 greatest with_greatest)

unfoldable pub with_least : World
with_least = done 0 (insert 0 least without_greatest)

unfoldable pub without_least : World
without_least = done 0 (delete 0 least with_least)

unfoldable pub with_both : World
with_both = done 0 (insert 0 least with_greatest)

-- ---- scans of 3, 5 and 7

unfoldable pub scanned : World
scanned = done 0 (scans 0 (pos 0) (pos 9) three)

-- the first k places of worker 0's lists, and its counts
unfoldable pub pending_of : ℕ → World → List ℕ
pending_of k s = take k s.pending

unfoldable pub found_of : ℕ → World → List ℤ
found_of k s = take k s.found

unfoldable pub counts_of : World → List ℕ
counts_of s = (worker_at s 0).pending ∷ (worker_at s 0).found ∷ []

pub record Corners : Type 0 where
  -- M = 2: the insert of 5 takes the one record beside the dummy
  pub no_record : ends 0 0 (insert 0 (pos 3) (done 0 (insert 0 (pos 5) (fresh 16 2)))) ≡ shown (Ok (Some NoRoom)) 11 6 2 0
  -- 'no phase, when a scan's increment finds Counter at 65,535, and only then, Counter kept'
  pub no_phase : ends 0 0 (scans 0 (pos 0) (pos 9) (at_phase 65535)) ≡ shown (Ok (Some NoPhase)) 2 3 1 65535
  pub no_phase_tables : same_tables (tables_of (done 0 (scans 0 (pos 0) (pos 9) (at_phase 65535)))) (tables_of (at_phase 65535)) ≡ true
  pub no_phase_worker : worker_at (done 0 (scans 0 (pos 0) (pos 9) (at_phase 65535))) 0 ≡ idle
  pub last_phase : ends 0 0 (scans 0 (pos 0) (pos 9) (at_phase 65534)) ≡ shown (Ok (Some (Keys 0))) 5 3 1 65535
  -- it is the increment that counts, not the read of line 130
  pub which_counts : ends 1 0 both_scan ≡ shown (Ok (Some NoPhase)) 2 3 1 65535
  -- the others need no phase
  pub others_go_on : ends 0 0 (insert 0 (pos 5) (at_phase 65535)) ≡ shown (Ok (Some Yes)) 18 6 2 65535
  -- 'keys 2,147,483,647 and −2,147,483,648 insert, find and delete'
  pub greatest_in : ends 0 0 (insert 0 greatest (fresh 16 8)) ≡ shown (Ok (Some Yes)) 18 6 2 0
  pub greatest_found : ends 0 0 (find 0 greatest with_greatest) ≡ shown (Ok (Some Yes)) 11 6 2 0
  pub greatest_out : ends 0 0 (delete 0 greatest with_greatest) ≡ shown (Ok (Some Yes)) 34 7 3 0
  pub greatest_gone : ends 0 0 (find 0 greatest without_greatest) ≡ shown (Ok (Some No)) 6 7 3 0
  pub least_in : ends 0 0 (insert 0 least without_greatest) ≡ shown (Ok (Some Yes)) 18 10 4 0
  pub least_found : ends 0 0 (find 0 least with_least) ≡ shown (Ok (Some Yes)) 11 10 4 0
  pub least_out : ends 0 0 (delete 0 least with_least) ≡ shown (Ok (Some Yes)) 34 11 5 0
  pub least_gone : ends 0 0 (find 0 least without_least) ≡ shown (Ok (Some No)) 6 11 5 0
  pub both_keys : found_of 2 (done 0 (scans 0 least greatest with_both)) ≡ greatest ∷ least ∷ []
  -- 'found keys are listed in that order, so highest first': the Root, 5, 8 and 11 three turns each, then the left of 11 and of 8
  pub highest_first : ends 0 0 (scans 0 (pos 0) (pos 9) three) ≡ shown (Ok (Some (Keys 3))) 16 12 4 1
  pub highest_first_keys : found_of 3 scanned ≡ pos 7 ∷ pos 5 ∷ pos 3 ∷ []
  -- 'pending are the nodes whose right child has been read and whose left is still to be read': 8 and 11 after 14 turns, and the key 7 found
  pub pending_nodes : pending_of 2 (took 14 0 (scans 0 (pos 0) (pos 9) three)) ≡ 8 ∷ 11 ∷ []
  pub pending_counts : counts_of (took 14 0 (scans 0 (pos 0) (pos 9) three)) ≡ 2 ∷ 1 ∷ []
  -- 'after any answer the worker is idle with none pending'; the places behind the count keep their contents
  pub none_pending : counts_of scanned ≡ 0 ∷ 3 ∷ []
  pub pending_kept : pending_of 2 scanned ≡ 8 ∷ 11 ∷ []
  -- 'it keeps its found keys until its next start, which sets that count to 0; places behind a count keep their contents'
  pub start_forgets : counts_of (find 0 (pos 5) scanned) ≡ 0 ∷ 0 ∷ []
  pub start_keeps : found_of 3 (find 0 (pos 5) scanned) ≡ pos 7 ∷ pos 5 ∷ pos 3 ∷ []
  -- of pending 01 says no such thing: by hand, an idle worker with one pending, and a start
  pub start_keeps_pending : counts_of (find 0 (pos 5) (with_worker 0 (record { operation = None; hand = blank; pending = 1; found = 0 }) three)) ≡ 1 ∷ 0 ∷ []
  -- a scan of 4 to 6: right of 8 (4 ≤ 5 ≤ 6), left of 11 (6 < 7) alone, then the left of 8; the key 5, written over the 7
  pub narrow : ends 0 0 (scans 0 (pos 4) (pos 6) scanned) ≡ shown (Ok (Some (Keys 1))) 15 12 4 2
  pub narrow_keys : found_of 3 (done 0 (scans 0 (pos 4) (pos 6) scanned)) ≡ pos 5 ∷ pos 5 ∷ pos 3 ∷ []
  -- 'a scan with a greater than b walks as any other and finds nothing': left of the Root and of 5, right of 8 and of 11
  pub backward : ends 0 0 (scans 0 (pos 9) (pos 0) three) ≡ shown (Ok (Some (Keys 0))) 14 12 4 1
  -- nobody asked on the way; at the ends the tables are sound
  pub sound : sound_of scanned && (sound_of without_least && sound_of (done 0 both_scan)) ≡ true

pub corners : Corners
unfolding steps_opened fresh insert delete find scans show took done ends same_list same_tables at_phase both_scan with_greatest without_greatest with_least without_least with_both two three scanned pending_of found_of counts_of
corners = record {
  no_record = refl;
  no_phase = refl;
  no_phase_tables = refl;
  no_phase_worker = refl;
  last_phase = refl;
  which_counts = refl;
  others_go_on = refl;
  greatest_in = refl;
  greatest_found = refl;
  greatest_out = refl;
  greatest_gone = refl;
  least_in = refl;
  least_found = refl;
  least_out = refl;
  least_gone = refl;
  both_keys = refl;
  highest_first = refl;
  highest_first_keys = refl;
  pending_nodes = refl;
  pending_counts = refl;
  none_pending = refl;
  pending_kept = refl;
  start_forgets = refl;
  start_keeps = refl;
  start_keeps_pending = refl;
  narrow = refl;
  narrow_keys = refl;
  backward = refl;
  sound = refl;
}
