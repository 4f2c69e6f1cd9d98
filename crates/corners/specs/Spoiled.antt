-- 01, 'Sound means', of sizes, nodes and records: each clause broken alone on tables that are otherwise sound; and what may hold anything.
use Rattle.std.specs.Prelude.{ℕ, ◌≡◌, refl, Bool, true, false, List, [], ◌∷◌, map, replicate, pos, Some}
use Rattle.shapes.specs.declared.Place.TheVariants as place
use Rattle.shapes.specs.declared.Key.{Key}
use Rattle.shapes.specs.declared.Operation.TheVariants.{Find}
use Rattle.tables.specs.Names.{node, key_of}
use Rattle.tables.specs.Rows.{put_row}
use Rattle.tables.specs.Nodes.{node_width}
use Rattle.tables.specs.Records.{record_width}
use Rattle.tables.specs.World.{World}
use Rattle.sound.specs.Sound.{sound_of}
use Rattle.steps.specs.Opened.{steps_opened}
use Rattle.steps.specs.Play.{fresh, insert, delete, took, done}
use Rattle.steps.specs.Hands.{with_node, with_record, with_totals, with_counter, with_used, with_worker, busy, hand, exactly, cut, kind_word, class_word, key_word, phase_word, has_prev_word, prev_word, left_word, right_word, mark_word, info_word, count_word, state_word, par_word, old_word, new_word, seq_word, entry_node, entry_type, entry_info, entry_mark}

-- 5 is inserted and is being deleted (N = 8, M = 4): 7 nodes are used, of which the Root 0 and 5 are internal; record 1 lists 2 nodes,
-- record 2 lists 4; worker 0 is in HELP, at the second of the four
unfoldable pub sound : World
sound = took 25 0 (delete 0 (pos 5) (done 0 (insert 0 (pos 5) (fresh 8 4))))

unfoldable pub soundness : List World → List Bool
soundness l = map sound_of l

abbrev pub five : Key
five = key_of (pos 5)

-- ---- sizes

pub record SpoiledSizes : Type 0 where
  -- N 8 to 1,024, M 2 to 512, P 1 to 8, in tables that are long enough
  pub least : sound_of (exactly 8 2 1) ≡ true
  pub n7 : sound_of (exactly 7 2 1) ≡ false
  pub m1 : sound_of (exactly 8 1 1) ≡ false
  pub p0 : sound_of (exactly 8 2 0) ≡ false
  pub most : sound_of (exactly 1024 512 8) ≡ true
  pub n1025 : sound_of (exactly 1025 2 1) ≡ false
  pub m513 : sound_of (exactly 8 513 1) ≡ false
  pub p9 : sound_of (exactly 8 2 9) ≡ false
  -- each table one place too short: 8 × 10, 2 × 22, 8 and 8 are needed
  pub whole : sound_of (cut 80 44 8 8 (exactly 8 2 1)) ≡ true
  pub nodes_short : sound_of (cut 79 44 8 8 (exactly 8 2 1)) ≡ false
  pub records_short : sound_of (cut 80 43 8 8 (exactly 8 2 1)) ≡ false
  pub pending_short : sound_of (cut 80 44 7 8 (exactly 8 2 1)) ≡ false
  pub found_short : sound_of (cut 80 44 8 7 (exactly 8 2 1)) ≡ false
  -- used nodes 3 to N, used records 1 to M, in tables whose next rows would do; two nodes are the Root and a leaf
  pub nodes8 : sound_of (with_used 8 1 (fresh 8 2)) ≡ true
  pub nodes2 : sound_of (with_used 2 1 (with_node 0 right_word 1 (fresh 8 2))) ≡ false
  pub nodes9 : sound_of (with_used 9 1 (with_totals (record { n = 8; m = 2; p = 1; nodes = 3; records = 1; counter = 0 }) (fresh 9 2))) ≡ false
  pub records2 : sound_of (with_used 3 2 (fresh 8 2)) ≡ true
  pub records0 : sound_of (with_used 3 0 (fresh 8 2)) ≡ false
  pub records3 : sound_of (with_used 3 3 (with_totals (record { n = 8; m = 2; p = 1; nodes = 3; records = 1; counter = 0 }) (fresh 8 3))) ≡ false
  -- Counter 0 to 65,535
  pub counter_last : sound_of (with_counter 65535 (fresh 8 2)) ≡ true
  pub counter_beyond : sound_of (with_counter 65536 (fresh 8 2)) ≡ false

pub spoiled_sizes : SpoiledSizes
unfolding steps_opened fresh
spoiled_sizes = record {
  least = refl;
  n7 = refl;
  m1 = refl;
  p0 = refl;
  most = refl;
  n1025 = refl;
  m513 = refl;
  p9 = refl;
  whole = refl;
  nodes_short = refl;
  records_short = refl;
  pending_short = refl;
  found_short = refl;
  nodes8 = refl;
  nodes2 = refl;
  nodes9 = refl;
  records2 = refl;
  records0 = refl;
  records3 = refl;
  counter_last = refl;
  counter_beyond = refl;
}

-- ---- nodes

pub record SpoiledNodes : Type 0 where
  pub unspoiled : sound_of sound ≡ true
  -- 'Root .. as fresh but for Root's children and update word': its kind, key, phase and prev
  pub root_leaf : sound_of (with_node 0 kind_word 0 (with_node 0 left_word 0 (with_node 0 right_word 0 (fresh 8 2)))) ≡ false
  pub root_one : sound_of (with_node 0 class_word 1 (fresh 8 2)) ≡ false
  pub root_finite : sound_of (with_node 0 class_word 0 (fresh 8 2)) ≡ false
  pub root_phase : sound_of (with_node 0 phase_word 1 (with_counter 1 (fresh 8 2))) ≡ false
  pub root_prev : sound_of (with_node 0 has_prev_word 1 (fresh 8 2)) ≡ false
  pub root_children : sound_of (with_node 0 left_word 2 (with_node 0 right_word 1 (fresh 8 2))) ≡ true
  pub root_mark : sound_of (with_node 0 mark_word 1 (fresh 8 2)) ≡ true
  pub root_info : sound_of (with_node 0 info_word 2 sound) ≡ true
  -- 'every internal node has two children among the used nodes and no leaf has any'; node 7 is not used
  pub left_unused : sound_of (with_node 5 left_word 7 sound) ≡ false
  pub right_unused : sound_of (with_node 5 right_word 7 sound) ≡ false
  pub leaf_left : sound_of (with_node 3 left_word 1 sound) ≡ false
  pub leaf_right : sound_of (with_node 3 right_word 1 sound) ≡ false
  -- 'prev is absent or a smaller number than the node's own'
  pub prev_absent : sound_of (with_node 5 has_prev_word 0 sound) ≡ true
  pub prev_smaller : sound_of (with_node 5 prev_word 4 sound) ≡ true
  pub prev_own : sound_of (with_node 5 prev_word 5 sound) ≡ false
  pub prev_later : sound_of (with_node 5 prev_word 6 sound) ≡ false
  -- 'record numbers in update words .. refer to used ones'; record 3 is not used
  pub info_unused : sound_of (with_node 3 info_word 3 sound) ≡ false
  -- 'no phase of a node .. exceeds Counter'
  pub phase_beyond : sound_of (with_node 3 phase_word 1 sound) ≡ false
  pub phase_counter : sound_of (with_node 3 phase_word 1 (with_counter 1 sound)) ≡ true
  -- a row means something: a kind, a key, FLAG or MARK
  pub no_kind : sound_of (with_node 3 kind_word 2 sound) ≡ false
  pub no_class : sound_of (with_node 3 class_word 3 (with_node 3 key_word 0 sound)) ≡ false
  pub infinite_word : sound_of (with_node 4 key_word 1 sound) ≡ false
  pub no_type : sound_of (with_node 3 mark_word 2 sound) ≡ false

pub spoiled_nodes : SpoiledNodes
unfolding steps_opened fresh insert delete took done sound
spoiled_nodes = record {
  unspoiled = refl;
  root_leaf = refl;
  root_one = refl;
  root_finite = refl;
  root_phase = refl;
  root_prev = refl;
  root_children = refl;
  root_mark = refl;
  root_info = refl;
  left_unused = refl;
  right_unused = refl;
  leaf_left = refl;
  leaf_right = refl;
  prev_absent = refl;
  prev_smaller = refl;
  prev_own = refl;
  prev_later = refl;
  info_unused = refl;
  phase_beyond = refl;
  phase_counter = refl;
  no_kind = refl;
  no_class = refl;
  infinite_word = refl;
  no_type = refl;
}

-- ---- records

abbrev pub all_words : List ℕ
all_words = 0 ∷ 1 ∷ 2 ∷ 3 ∷ 4 ∷ 5 ∷ 6 ∷ 7 ∷ 8 ∷ 9 ∷ 10 ∷ 11 ∷ 12 ∷ 13 ∷ 14 ∷ 15 ∷ 16 ∷ 17 ∷ 18 ∷ 19 ∷ 20 ∷ 21 ∷ []

pub record SpoiledRecords : Type 0 where
  -- 'dummy as fresh': each of its words
  pub dummy_words : soundness (map (λ f. with_record 0 f 1 (fresh 8 2)) all_words) ≡ replicate 22 false
  -- 'all numbers in records .. refer to used ones': parent, old child, new child, the nodes listed, the records of their old words
  pub nodes_of_two : soundness (map (λ f. with_record 1 f 7 sound) (par_word ∷ old_word ∷ new_word ∷ entry_node 1 ∷ entry_node 2 ∷ [])) ≡ replicate 5 false
  pub records_of_two : soundness (map (λ f. with_record 1 f 3 sound) (entry_info 1 ∷ entry_info 2 ∷ [])) ≡ replicate 2 false
  pub nodes_of_four : soundness (map (λ f. with_record 2 f 7 sound) (par_word ∷ old_word ∷ new_word ∷ entry_node 1 ∷ entry_node 2 ∷ entry_node 3 ∷ entry_node 4 ∷ [])) ≡ replicate 7 false
  pub records_of_four : soundness (map (λ f. with_record 2 f 3 sound) (entry_info 1 ∷ entry_info 2 ∷ entry_info 3 ∷ entry_info 4 ∷ [])) ≡ replicate 4 false
  -- 'no phase of a .. record exceeds Counter'
  pub phase_beyond : sound_of (with_record 1 seq_word 1 sound) ≡ false
  -- 'is unfilled, or lists 2 or 4 nodes'
  pub counts : soundness (map (λ c. with_record 1 count_word c sound) (0 ∷ 1 ∷ 2 ∷ 3 ∷ 4 ∷ 5 ∷ 6 ∷ [])) ≡ true ∷ false ∷ true ∷ false ∷ true ∷ false ∷ false ∷ []
  -- 'and its parent is internal', where it is filled
  pub parent_leaf : sound_of (with_record 1 par_word 3 sound) ≡ false
  pub parent_unfilled : sound_of (with_record 1 par_word 3 (with_record 1 count_word 0 sound)) ≡ true
  -- a row means something: a state, FLAG or MARK, to be marked or not
  pub states : soundness (map (λ v. with_record 1 state_word v sound) (0 ∷ 1 ∷ 2 ∷ 3 ∷ 4 ∷ [])) ≡ true ∷ true ∷ true ∷ true ∷ false ∷ []
  pub no_type : sound_of (with_record 1 (entry_type 2) 2 sound) ≡ false
  pub no_mark : sound_of (with_record 1 (entry_mark 2) 2 sound) ≡ false

pub spoiled_records : SpoiledRecords
unfolding steps_opened fresh insert delete took done sound soundness
spoiled_records = record {
  dummy_words = refl;
  nodes_of_two = refl;
  records_of_two = refl;
  nodes_of_four = refl;
  records_of_four = refl;
  phase_beyond = refl;
  counts = refl;
  parent_leaf = refl;
  parent_unfilled = refl;
  states = refl;
  no_type = refl;
  no_mark = refl;
}

-- ---- 'unused nodes and records, and places behind a count, may hold anything'; so may what lies beyond the sizes

-- rows of 99
abbrev pub scribbled_node : ℕ → World → World
scribbled_node n s = record { board = s.board; nodes = put_row node_width s.nodes n (replicate node_width 99); records = s.records; pending = s.pending; found = s.found }

abbrev pub scribbled_record : ℕ → World → World
scribbled_record r s = record { board = s.board; nodes = s.nodes; records = put_row record_width s.records r (replicate record_width 99); pending = s.pending; found = s.found }

abbrev pub scribbled_lists : World → World
scribbled_lists s = record { board = s.board; nodes = s.nodes; records = s.records; pending = replicate 24 99; found = replicate 24 (pos 99) }

pub record Anything : Type 0 where
  pub unused_node : sound_of (scribbled_node 7 sound) ≡ true
  pub used_node : sound_of (scribbled_node 6 sound) ≡ false
  pub unused_record : sound_of (scribbled_record 3 sound) ≡ true
  pub used_record : sound_of (scribbled_record 2 sound) ≡ false
  pub behind_counts : sound_of (scribbled_lists sound) ≡ true
  -- the third and fourth node of a record that lists two
  pub behind_list : sound_of (with_record 1 (entry_node 3) 99 (with_record 1 (entry_info 3) 99 (with_record 1 (entry_node 4) 99 sound))) ≡ true
  -- a worker from P on
  pub behind_p : sound_of (with_worker 3 (busy (Find five place.Left144) (hand (Some (node 99)) 99 99) 99 99) sound) ≡ true
  pub within_p : sound_of (with_worker 2 (busy (Find five place.Left144) (hand (Some (node 99)) 99 99) 99 99) sound) ≡ false
  -- tables longer than they need be: those of Play are, by three places
  pub longer : sound_of (fresh 8 2) ≡ true

pub anything : Anything
unfolding steps_opened fresh insert delete took done sound
anything = record { unused_node = refl; used_node = refl; unused_record = refl; used_record = refl; behind_counts = refl; behind_list = refl; behind_p = refl; within_p = refl; longer = refl }
