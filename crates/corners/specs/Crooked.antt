-- 01, 'Crooked means', case by case on tables made by hand: refusal 7, and all as before. Beside each, what is not crooked.
use Rattle.std.specs.Prelude.{◌≡◌, refl, [], ◌∷◌, map, replicate, pos, Option, None, Some, Ok, Err}
use Rattle.shapes.specs.declared.Locals.{Locals}
use Rattle.shapes.specs.declared.Link.TheVariants.{Leaf64, Parent65, Sibling183, Left187, Right188}
use Rattle.shapes.specs.declared.LinkStep.TheVariants.{Word52, State53, Child57}
use Rattle.shapes.specs.declared.HelpStep.TheVariants.{Counter111, Freeze117, Frozen119}
use Rattle.shapes.specs.declared.Back.TheVariants.{Again, Node}
use Rattle.shapes.specs.declared.Place.TheVariants as place
use Rattle.shapes.specs.declared.Operation.TheVariants.{Delete, Find, Scan}
use Rattle.shapes.specs.declared.Refusal.TheVariants as refusal
use Rattle.shapes.specs.declared.Answer.TheVariants.{Yes, No, Keys}
use Rattle.shapes.specs.declared.NodeNo.{NodeNo}
use Rattle.tables.specs.Names.{node, record_no, phase, flag, update, key_of}
use Rattle.tables.specs.World.{World}
use Rattle.steps.specs.Hand.{at_word, holding, with_up, with_pup, with_sibling, with_taken}
use Rattle.steps.specs.Turn.{turn_of}
use Rattle.steps.specs.Opened.{steps_opened}
use Rattle.steps.specs.Play.{fresh, delete, answer, shown, show}
use Rattle.steps.specs.Hands.{with_node, with_pending, doing, hand, class_word, key_word}
use Rattle.corners.specs.CrookedTables.{base, inserting, deleting, scanning, later, below, tests, helping, outcomes, outside, Crooks, GoesOn, crooked}

-- 'come to the end of a prev walk without a node early enough'
pub record Walks : Type 0 where
  pub search : Crooks (later 7 (inserting place.Search39 (hand (Some (node 5)) 8 0)))
  pub search_further : Crooks (later 3 (later 8 (inserting place.Search39 (hand (Some (node 0)) 5 0))))
  pub search_stops : GoesOn (later 8 (inserting place.Search39 (hand (Some (node 0)) 5 0)))
  pub sibling : Crooks (later 6 (deleting place.Sibling182 below))
  pub scan_right : Crooks (later 7 (scanning 0 9 place.Child141 8 0 0))
  pub scan_right_alone : Crooks (later 7 (scanning 6 9 place.Child141 8 0 0))
  pub scan_left_alone : Crooks (later 6 (scanning 0 4 place.Child141 8 0 0))
  pub scan_left : Crooks (later 6 (with_pending 0 0 8 (scanning 0 9 place.Left144 0 1 0)))

pub walks : Walks
unfolding steps_opened base
walks = record { search = crooked refl; search_further = crooked refl; search_stops = refl; sibling = crooked refl; scan_right = crooked refl; scan_right_alone = crooked refl; scan_left_alone = crooked refl; scan_left = crooked refl }

-- 'push on a full list': N = 9 pending, or 9 found
pub record Pushes : Type 0 where
  pub pending_full : Crooks (scanning 0 9 place.Child141 8 9 0)
  pub pending_room : GoesOn (scanning 0 9 place.Child141 8 8 0)
  -- one child alone needs no push
  pub pending_alone : GoesOn (scanning 6 9 place.Child141 8 9 0)
  pub found_full : Crooks (scanning 0 9 place.Child141 8 0 9)
  pub found_room : GoesOn (scanning 0 9 place.Child141 8 0 8)
  -- a leaf outside a to b is not pushed: key 3 is beyond 2
  pub found_outside : (turn_of (scanning 0 2 place.Child141 8 0 9) 0).outcome ≡ Ok (Some (Keys 9))
  pub found_full_left : Crooks (with_pending 0 0 8 (scanning 0 9 place.Left144 0 1 9))

pub pushes : Pushes
unfolding steps_opened base
pushes = record { pending_full = crooked refl; pending_room = refl; pending_alone = refl; found_full = crooked refl; found_room = refl; found_outside = refl; found_full_left = crooked refl }

-- 'use an absent or wrong-kind node as parent, grandparent': to use a node is to read or change its words, or list it in a record
pub record Parents : Type 0 where
  -- line 39
  pub search : Crooks (inserting place.Search39 (hand (Some (node 8)) 7 0))
  -- lines 52 and 57 with a leaf as p; the frozen test between them uses no node
  pub leaf_word : Crooks (inserting (place.Link Leaf64 Word52) (hand (Some (node 8)) 7 7))
  pub leaf_state : GoesOn (inserting (place.Link Leaf64 State53) (hand (Some (node 8)) 7 7))
  pub leaf_child : Crooks (inserting (place.Link Leaf64 Child57) (hand (Some (node 8)) 7 7))
  -- with no gp, or a leaf as gp
  pub parent_word : Crooks (inserting (place.Link Parent65 Word52) (hand None 8 7))
  pub parent_word_leaf : Crooks (inserting (place.Link Parent65 Word52) (hand (Some (node 6)) 8 7))
  pub parent_state : GoesOn (inserting (place.Link Parent65 State53) (hand None 8 7))
  pub parent_child : Crooks (inserting (place.Link Parent65 Child57) (hand None 8 7))
  pub parent_child_leaf : Crooks (inserting (place.Link Parent65 Child57) (hand (Some (node 6)) 8 7))
  -- lines 183, 187 and 188
  pub sibling_word : Crooks (deleting (place.Link Sibling183 Word52) (with_sibling (hand (Some (node 5)) 7 7) (node 6)))
  pub sibling_child : Crooks (deleting (place.Link Sibling183 Child57) (with_sibling (hand (Some (node 5)) 7 7) (node 6)))
  pub left_word : Crooks (deleting (place.Link Left187 Word52) (with_taken (with_sibling below (node 6)) (node 8) (record_no 3)))
  pub left_child : Crooks (deleting (place.Link Left187 Child57) (with_taken (with_sibling below (node 6)) (node 8) (record_no 3)))
  pub right_word : Crooks (deleting (place.Link Right188 Word52) (with_taken (with_sibling below (node 6)) (node 8) (record_no 3)))
  pub right_child : Crooks (deleting (place.Link Right188 Child57) (with_taken (with_sibling below (node 6)) (node 8) (record_no 3)))
  -- line 66, p and gp
  pub word66 : Crooks (inserting place.Word66 (hand (Some (node 8)) 7 7))
  pub grand66 : Crooks (inserting place.Grand66 (hand None 8 7))
  pub grand66_leaf : Crooks (inserting place.Grand66 (hand (Some (node 6)) 8 7))
  -- line 182
  pub sibling182 : Crooks (deleting place.Sibling182 (hand (Some (node 5)) 7 7))
  -- the sibling whose children are copied
  pub copy_left : Crooks (deleting place.CopyLeft (with_taken (with_sibling below (node 6)) (node 8) (record_no 3)))
  pub copy_right : Crooks (deleting place.CopyRight (with_taken (with_sibling below (node 6)) (node 8) (record_no 3)))
  -- lines 139, 141 and 144
  pub scan_word : Crooks (scanning 0 9 place.Word139 7 0 0)
  pub scan_state : GoesOn (scanning 0 9 place.State140 7 0 0)
  pub scan_child : Crooks (scanning 0 9 place.Child141 7 0 0)
  pub scan_left : Crooks (with_pending 0 0 7 (scanning 0 9 place.Left144 0 1 0))

pub parents : Parents
unfolding steps_opened base
parents = record {
  search = crooked refl;
  leaf_word = crooked refl;
  leaf_state = refl;
  leaf_child = crooked refl;
  parent_word = crooked refl;
  parent_word_leaf = crooked refl;
  parent_state = refl;
  parent_child = crooked refl;
  parent_child_leaf = crooked refl;
  sibling_word = crooked refl;
  sibling_child = crooked refl;
  left_word = crooked refl;
  left_child = crooked refl;
  right_word = crooked refl;
  right_child = crooked refl;
  word66 = crooked refl;
  grand66 = crooked refl;
  grand66_leaf = crooked refl;
  sibling182 = crooked refl;
  copy_left = crooked refl;
  copy_right = crooked refl;
  scan_word = crooked refl;
  scan_state = refl;
  scan_child = crooked refl;
  scan_left = crooked refl;
}

-- the Root's word as insert 5 left it
abbrev pub at_the_root : Option NodeNo → Locals
at_the_root gp = with_pup (hand gp 0 7) (update flag (record_no 1))

-- leaf 1 below the Root has the key 5
unfoldable pub shallow : World
shallow = with_node 1 class_word 0 (with_node 1 key_word 2147483653 (fresh 8 2))

-- 'a delete reaching line 182 with gp absent is crooked in the turn that reaches it'
pub record Grandparents : Type 0 where
  pub reaches182 : Crooks (deleting place.Word66 (at_the_root None))
  pub reaches_played : show (answer 0 (delete 0 (pos 5) shallow)) ≡ shown (Err refusal.Crooked) 5 3 1 0
  -- with p the Root no word of gp was read (line 62)
  pub no_word : Crooks (deleting place.Word66 (at_the_root (Some (node 5))))
  -- a find or another key does not reach line 182
  pub find_says : (turn_of (doing (Find (key_of (pos 5)) place.Word66) (at_the_root None) base) 0).outcome ≡ Ok (Some Yes)
  pub other_key : (turn_of (doing (Delete (key_of (pos 4)) place.Word66) (at_the_root None) base) 0).outcome ≡ Ok (Some No)
  -- the fill (line 102), which lists gp and p
  pub fill_delete : GoesOn (deleting place.Frozen97 (tests 4 (Some (node 5)) 8 6 3 3))
  pub fill_no_gp : Crooks (deleting place.Frozen97 (tests 4 None 8 6 3 3))
  pub fill_leaf_gp : Crooks (deleting place.Frozen97 (tests 4 (Some (node 7)) 8 6 3 3))
  pub fill_leaf_p : Crooks (deleting place.Frozen97 (tests 4 (Some (node 5)) 7 6 3 3))
  pub fill_insert : GoesOn (inserting place.Frozen97 (tests 2 None 8 0 0 3))
  pub fill_insert_leaf_p : Crooks (inserting place.Frozen97 (tests 2 None 7 0 0 3))

pub grandparents : Grandparents
unfolding steps_opened fresh delete answer show base shallow
grandparents = record {
  reaches182 = crooked refl;
  reaches_played = refl;
  no_word = crooked refl;
  find_says = refl;
  other_key = refl;
  fill_delete = refl;
  fill_no_gp = crooked refl;
  fill_leaf_gp = crooked refl;
  fill_leaf_p = crooked refl;
  fill_insert = refl;
  fill_insert_leaf_p = crooked refl;
}

-- 'as .. copy': its kind is not the sibling's; sibling 8 is internal, 6 is a leaf
pub record Copies : Type 0 where
  pub left : Crooks (deleting place.CopyLeft (with_taken (with_sibling below (node 8)) (node 3) (record_no 3)))
  pub right : Crooks (deleting place.CopyRight (with_taken (with_sibling below (node 8)) (node 3) (record_no 3)))
  -- lines 187 and 188: the word is the sibling's, the child is compared with the copy's
  pub left_word : GoesOn (deleting (place.Link Left187 Word52) (with_taken (with_sibling below (node 8)) (node 3) (record_no 3)))
  pub left_child : Crooks (deleting (place.Link Left187 Child57) (with_taken (with_sibling below (node 8)) (node 3) (record_no 3)))
  pub right_word : GoesOn (deleting (place.Link Right188 Word52) (with_taken (with_sibling below (node 8)) (node 3) (record_no 3)))
  pub right_child : Crooks (deleting (place.Link Right188 Child57) (with_taken (with_sibling below (node 8)) (node 3) (record_no 3)))
  -- the fill
  pub fill_leaf : Crooks (deleting place.Frozen97 (tests 4 (Some (node 5)) 8 8 3 3))
  pub fill_internal : Crooks (deleting place.Frozen97 (tests 4 (Some (node 5)) 8 6 8 3))

pub copies : Copies
unfolding steps_opened base
copies = record { left = crooked refl; right = crooked refl; left_word = refl; left_child = crooked refl; right_word = refl; right_child = crooked refl; fill_leaf = crooked refl; fill_internal = crooked refl }

-- 'fill the dummy or a filled record, or help the dummy or an unfilled record'
pub record Records : Type 0 where
  pub fill_dummy : Crooks (inserting place.Frozen97 (tests 2 None 8 0 0 0))
  pub fill_filled : Crooks (inserting place.Frozen97 (tests 2 None 8 0 0 1))
  pub fill_dummy_delete : Crooks (deleting place.Frozen97 (tests 4 (Some (node 5)) 8 6 3 0))
  pub fill_filled_delete : Crooks (deleting place.Frozen97 (tests 4 (Some (node 5)) 8 6 3 2))
  -- a test before the last fills nothing
  pub not_the_last : GoesOn (inserting place.Frozen97 (tests 1 None 8 0 0 0))
  -- line 103 uses the record that line 102 filled
  pub freeze_dummy : Crooks (inserting place.Freeze103 (holding (record_no 0)))
  pub freeze_unfilled : Crooks (inserting place.Freeze103 (holding (record_no 3)))
  pub freeze_filled : GoesOn (inserting place.Freeze103 (holding (record_no 1)))
  -- HELP, in whatever step; a filled record is helped
  pub help_dummy : outcomes (map (helping 0) outside) ≡ replicate 9 (Err refusal.Crooked)
  pub help_unfilled : outcomes (map (helping 3) outside) ≡ replicate 9 (Err refusal.Crooked)
  pub help_filled : outcomes (map (helping 1) outside) ≡ Ok None ∷ (Ok None) ∷ (Ok None) ∷ (Ok None) ∷ (Ok None) ∷ (Ok None) ∷ (Ok None) ∷ (Ok None) ∷ Ok (Some Yes) ∷ []
  -- a step within the list needs a place in it, and neither record has one: refusal 1 comes first
  pub help_nowhere : outcomes (helping 0 Freeze117 ∷ helping 0 Frozen119 ∷ helping 3 Freeze117 ∷ helping 3 Frozen119 ∷ []) ≡ replicate 4 (Err refusal.Table)
  pub help_all : Crooks (helping 3 Counter111)
  -- where HELP returns to does not matter
  pub help_again : Crooks (doing (Find (key_of (pos 5)) (place.Help Counter111 Again)) (holding (record_no 3)) base)
  pub help_node : Crooks (doing (Scan (key_of (pos 0)) (key_of (pos 9)) (place.Help Counter111 Node)) (at_word (phase 0) (node 8) (record_no 3)) base)
  -- the turn that decides to help an unfilled record is taken, the next is crooked
  pub decides : show (answer 0 (inserting (place.Link Leaf64 State53) (with_up below (update flag (record_no 3))))) ≡ shown (Err refusal.Crooked) 1 9 4 0

pub records : Records
unfolding steps_opened answer show base outcomes
records = record {
  fill_dummy = crooked refl;
  fill_filled = crooked refl;
  fill_dummy_delete = crooked refl;
  fill_filled_delete = crooked refl;
  not_the_last = refl;
  freeze_dummy = crooked refl;
  freeze_unfilled = crooked refl;
  freeze_filled = refl;
  help_dummy = refl;
  help_unfilled = refl;
  help_filled = refl;
  help_nowhere = refl;
  help_all = crooked refl;
  help_again = crooked refl;
  help_node = crooked refl;
  decides = refl;
}
