-- 01, 'Sound means', of workers: each clause broken alone on tables that are otherwise sound.
use Rattle.std.specs.Prelude.{ℕ, ◌≡◌, refl, Bool, true, false, List, [], ◌∷◌, ◌++◌, map, replicate, None, Some}
use Rattle.shapes.specs.declared.Locals.{Locals}
use Rattle.shapes.specs.declared.Link.TheVariants.{Leaf64, Sibling183}
use Rattle.shapes.specs.declared.LinkStep.TheVariants.{Word52}
use Rattle.shapes.specs.declared.HelpStep.TheVariants.{Counter111, Freeze117, Frozen119}
use Rattle.shapes.specs.declared.Back.TheVariants.{Own, Again, Node}
use Rattle.shapes.specs.declared.Place.{Place}
use Rattle.shapes.specs.declared.Place.TheVariants as place
use Rattle.shapes.specs.declared.Operation.{Operation}
use Rattle.shapes.specs.declared.Operation.TheVariants.{Insert, Delete, Find, Scan}
use Rattle.tables.specs.Names.{node, record_no, update}
use Rattle.tables.specs.World.{World, blank, idle}
use Rattle.sound.specs.Sound.{sound_of}
use Rattle.steps.specs.Hand.{with_up, with_pup, with_gpup, with_sup, with_lup, with_sibling, with_taken, with_i, holding}
use Rattle.steps.specs.Opened.{steps_opened}
use Rattle.steps.specs.Play.{fresh, insert, delete, took, done}
use Rattle.steps.specs.Hands.{with_worker, with_pending, busy, hand, with_seq}
use Rattle.corners.specs.Spoiled.{sound, soundness, five}

-- worker 1 with this in hand, at line 39 of an insert
abbrev pub handed : Locals → World
handed v = with_worker 1 (busy (Insert five place.Search39) v 0 0) sound

-- worker 1 with these counts, idle
abbrev pub counted : ℕ → ℕ → World
counted pending found = with_worker 1 (record { operation = idle.operation; hand = blank; pending = pending; found = found }) sound

-- worker 1 at place i of EXECUTE's or HELP's list; HELP is of record r
abbrev pub listing : Operation → ℕ → ℕ → World
listing o r i = with_worker 1 (busy o (with_i (holding (record_no r)) i) 0 0) sound

-- worker 1 at a place, with the Root pending
abbrev pub placed : Operation → World
placed o = with_worker 1 (busy o (with_i blank 1) 1 0) sound

-- places by the kinds of operation that have them: an insert, a delete and a find; an insert; a delete; an insert and a delete; a scan
abbrev pub attempt_places : List Place
attempt_places = place.Counter74 ∷ place.Search39 ∷ place.Link Leaf64 Word52 ∷ place.Word66 ∷ place.Grand66 ∷ place.Help Counter111 Again ∷ []

abbrev pub insert_places : List Place
insert_places = place.Leaf164 ∷ []

abbrev pub delete_places : List Place
delete_places = place.Sibling182 ∷ place.Link Sibling183 Word52 ∷ place.CopyLeft ∷ place.CopyRight ∷ place.Word189 ∷ place.Leaf190 ∷ []

abbrev pub update_places : List Place
update_places = place.Frozen97 ∷ place.State98 ∷ place.Freeze103 ∷ place.Help Counter111 Own ∷ []

abbrev pub scan_places : List Place
scan_places = place.Counter130 ∷ place.Bump131 ∷ place.Word139 ∷ place.State140 ∷ place.Child141 ∷ place.Left144 ∷ place.Help Counter111 Node ∷ []

abbrev pub at : (Place → Operation) → List Place → List Bool
at o l = soundness (map (λ q. placed (o q)) l)

pub record SpoiledWorkers : Type 0 where
  -- 'all numbers in .. workers refer to used ones': node 7 and record 3 are not used
  pub nodes : soundness (map handed (hand (Some (node 7)) 0 0 ∷ hand None 7 0 ∷ hand None 0 7 ∷ with_sibling blank (node 7) ∷ with_taken blank (node 7) (record_no 0) ∷ [])) ≡ replicate 5 false
  pub records : soundness (map handed (map (λ f. f (update 0 (record_no 3))) (with_gpup blank ∷ with_pup blank ∷ with_lup blank ∷ with_sup blank ∷ with_up blank ∷ []))) ≡ replicate 5 false
  pub record3 : sound_of (handed (holding (record_no 3))) ≡ false
  pub used : sound_of (handed (with_taken (with_sibling (hand (Some (node 5)) 6 6) (node 6)) (node 6) (record_no 2))) ≡ true
  -- 'no phase of a .. worker exceeds Counter'
  pub phase_beyond : sound_of (handed (with_seq blank 1)) ≡ false
  -- 'pending and found counts are at most N', and pending nodes are used
  pub counts : soundness (counted 8 8 ∷ counted 9 0 ∷ counted 0 9 ∷ []) ≡ true ∷ false ∷ false ∷ []
  pub pending_unused : soundness (with_pending 1 0 7 (counted 1 0) ∷ with_pending 1 1 7 (counted 1 0) ∷ []) ≡ false ∷ true ∷ []
  -- 'a worker's place in a list lies within that list': EXECUTE's old words, 2 of an insert and 4 of a delete
  pub insert_tests : soundness (map (listing (Insert five place.Frozen97) 0) (0 ∷ 1 ∷ 2 ∷ 3 ∷ [])) ≡ false ∷ true ∷ true ∷ false ∷ []
  pub insert_states : soundness (map (listing (Insert five place.State98) 0) (0 ∷ 1 ∷ 2 ∷ 3 ∷ [])) ≡ false ∷ true ∷ true ∷ false ∷ []
  pub delete_tests : soundness (map (listing (Delete five place.Frozen97) 0) (0 ∷ 1 ∷ 4 ∷ 5 ∷ [])) ≡ false ∷ true ∷ true ∷ false ∷ []
  pub delete_states : soundness (map (listing (Delete five place.State98) 0) (0 ∷ 1 ∷ 4 ∷ 5 ∷ [])) ≡ false ∷ true ∷ true ∷ false ∷ []
  -- HELP's nodes, 2 of record 1 and 4 of record 2
  pub help_of_two : soundness (map (listing (Find five (place.Help Freeze117 Again)) 1) (0 ∷ 1 ∷ 2 ∷ 3 ∷ [])) ≡ false ∷ true ∷ true ∷ false ∷ []
  pub help_of_four : soundness (map (listing (Find five (place.Help Freeze117 Again)) 2) (0 ∷ 1 ∷ 4 ∷ 5 ∷ [])) ≡ false ∷ true ∷ true ∷ false ∷ []
  pub help_frozen : soundness (map (listing (Find five (place.Help Frozen119 Again)) 2) (0 ∷ 1 ∷ 4 ∷ 5 ∷ [])) ≡ false ∷ true ∷ true ∷ false ∷ []
  -- the last of the pending nodes
  pub none_pending : sound_of (with_worker 1 (busy (Scan five five place.Left144) blank 0 0) sound) ≡ false
  -- 'inside that operation the place it has reached': a place of the operation's own kind
  pub insert_own : at (Insert five) (insert_places ++ update_places ++ attempt_places) ≡ replicate 11 true
  pub insert_other : at (Insert five) (delete_places ++ scan_places) ≡ replicate 13 false
  pub delete_own : at (Delete five) (delete_places ++ update_places ++ attempt_places) ≡ replicate 16 true
  pub delete_other : at (Delete five) (insert_places ++ scan_places) ≡ replicate 8 false
  pub find_own : at (Find five) attempt_places ≡ replicate 6 true
  pub find_other : at (Find five) (insert_places ++ delete_places ++ update_places ++ scan_places) ≡ replicate 18 false
  pub scan_own : at (Scan five five) scan_places ≡ replicate 7 true
  pub scan_other : at (Scan five five) (insert_places ++ delete_places ++ update_places ++ attempt_places) ≡ replicate 17 false

pub spoiled_workers : SpoiledWorkers
unfolding steps_opened fresh insert delete took done sound soundness
spoiled_workers = record {
  nodes = refl;
  records = refl;
  record3 = refl;
  used = refl;
  phase_beyond = refl;
  counts = refl;
  pending_unused = refl;
  insert_tests = refl;
  insert_states = refl;
  delete_tests = refl;
  delete_states = refl;
  help_of_two = refl;
  help_of_four = refl;
  help_frozen = refl;
  none_pending = refl;
  insert_own = refl;
  insert_other = refl;
  delete_own = refl;
  delete_other = refl;
  find_own = refl;
  find_other = refl;
  scan_own = refl;
  scan_other = refl;
}
