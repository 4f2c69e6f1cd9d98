-- Workers that meet: aborts, failed CAS steps and HELP, which P8 and P9 leave open.
use Rattle.std.specs.Prelude.{ℕ, ◌≡◌, refl, List, [], ◌∷◌, ◌++◌, true, ◌&&◌, pos, Some, Ok}
use Rattle.shapes.specs.declared.Answer.TheVariants.{Yes, No, Keys}
use Rattle.shapes.specs.declared.Link.TheVariants.{Leaf64}
use Rattle.shapes.specs.declared.LinkStep.TheVariants.{Word52, State53}
use Rattle.shapes.specs.declared.HelpStep.TheVariants.{Counter111, Abort112, Try113, State114, Freeze117, Frozen119, State125, Abort126, State127}
use Rattle.shapes.specs.declared.Back.{Back}
use Rattle.shapes.specs.declared.Back.TheVariants.{Own, Again, Node}
use Rattle.shapes.specs.declared.Place.{Place}
use Rattle.shapes.specs.declared.Place.TheVariants as place
use Rattle.tables.specs.Names.{node, record_no, root, flag, mark, update}
use Rattle.tables.specs.Nodes.{child_at, update_at}
use Rattle.tables.specs.Records.{undecided, aborted, count_at, state_at}
use Rattle.tables.specs.World.{World, tables_of}
use Rattle.sound.specs.Sound.{sound_of}
use Rattle.steps.specs.Opened.{steps_opened}
use Rattle.steps.specs.Play.{fresh, insert, delete, find, scans, to_the_end, shown, show, took, done, ends, place_in, places_of, same_list, same_tables}
use Rattle.steps.specs.Deletes.{two, three}

-- ---- the handshake fails: insert 5 has flagged the Root in phase 0, then Counter moves

unfoldable pub flagged5 : World
flagged5 = took 10 0 (insert 0 (pos 5) (fresh 16 8))

unfoldable pub scan_aborts : World
scan_aborts = scans 1 (pos 0) (pos 9) flagged5

unfoldable pub find_aborts : World
find_aborts = find 2 (pos 5) (took 2 1 scan_aborts)

-- HELP of a record that Counter has passed
abbrev pub aborts : Back → List Place
aborts b = place.Help Counter111 b ∷ place.Help Abort112 b ∷ place.Help State114 b ∷ place.Help State125 b ∷ place.Help State127 b ∷ []

-- ---- the first CAS fails: insert 5 stands before line 103, insert 3 passes whole

unfoldable pub late_flag : World
late_flag = done 1 (insert 1 (pos 3) (took 9 0 (insert 0 (pos 5) (fresh 16 8))))

-- ---- the second CAS fails: delete 5 has flagged the Root, then insert 3 flags its p

unfoldable pub lost_parent : World
lost_parent =
    let a = took 21 0 (delete 0 (pos 5) (done 0 (insert 0 (pos 5) (fresh 16 8)))) in
    let b = took 14 1 (insert 1 (pos 3) a) in
    took 1 1 (took 1 0 b)

-- ---- the fourth CAS fails: delete 3 has marked its p and its leaf, insert 9 has flagged the sibling

unfoldable pub lost_sibling : World
lost_sibling =
    let a = took 16 1 (insert 1 (pos 9) three) in
    let b = took 29 0 (delete 0 (pos 3) a) in
    took 13 0 (took 1 1 b)

-- ---- line 98: insert 5 has validated its leaf, then insert 3 marks it

unfoldable pub marked : ℕ → World
marked turns = took turns 1 (insert 1 (pos 3) (took 6 0 (insert 0 (pos 5) (fresh 16 8))))

-- the state moves between lines 97 and 98
unfoldable pub between97and98 : World
between97and98 = took 3 1 (took 3 0 (marked 14))

-- ---- a child CAS that comes too late: insert 5 stands before it, a find helps, 5 is deleted again

unfoldable pub late_child : World
late_child =
    let a = done 1 (find 1 (pos 5) (took 15 0 (insert 0 (pos 5) (fresh 16 8)))) in
    done 2 (delete 2 (pos 5) a)

-- ---- a find of 7 stands at a leaf whose parent delete 3 has marked and committed

unfoldable pub stale_parent : World
stale_parent = done 0 (delete 0 (pos 3) (took 5 1 (find 1 (pos 7) three)))

pub record Helping : Type 0 where
  -- lines 111 and 112 by a scan that helps; it finds nothing, and the insert begins again in phase 1
  pub scan_places : places_of to_the_end 1 scan_aborts ≡ (place.Counter130 ∷ place.Bump131 ∷ place.Word139 ∷ place.State140 ∷ []) ++ aborts Node ++ (place.Child141 ∷ [])
  pub scan_says : ends 0 1 scan_aborts ≡ shown (Ok (Some (Keys 0))) 10 6 2 1
  pub record_aborted : state_at (done 1 scan_aborts).records (record_no 1) ≡ aborted
  pub insert_sees : places_of 6 0 (done 1 scan_aborts) ≡ aborts Own ++ (place.Counter74 ∷ [])
  pub insert_says : ends 10 0 (done 1 scan_aborts) ≡ shown (Ok (Some Yes)) 33 9 3 1
  -- the same by a find, which then makes a new attempt
  pub find_sees : places_of 10 2 find_aborts ≡ (place.Counter74 ∷ place.Search39 ∷ place.Link Leaf64 Word52 ∷ place.Link Leaf64 State53 ∷ []) ++ aborts Again ++ (place.Counter74 ∷ [])
  pub find_says : ends 0 2 find_aborts ≡ shown (Ok (Some No)) 15 6 2 1
  -- line 105: turn 10 fails, then a whole attempt at depth 2; what was taken stays taken, and the record stays filled and undecided
  pub first_cas : ends 9 0 late_flag ≡ shown (Ok (Some Yes)) 33 12 4 0
  pub first_cas_next : places_of 2 0 late_flag ≡ place.Freeze103 ∷ place.Counter74 ∷ []
  pub first_cas_root : update_at (took 1 0 late_flag).nodes root ≡ update flag (record_no 2)
  pub first_cas_record : count_at (done 0 late_flag).records (record_no 1) ∷ state_at (done 0 late_flag).records (record_no 1) ∷ [] ≡ 2 ∷ undecided ∷ []
  -- lines 119, 125 and 126: p is another's; the delete aborts, helps insert 3, then finds 5 at depth 3
  pub second_cas : places_of 9 0 lost_parent ≡ place.Help Counter111 Own ∷ place.Help Try113 Own ∷ place.Help State114 Own ∷ place.Help Freeze117 Own ∷ place.Help Frozen119 Own ∷ place.Help State125 Own ∷ place.Help Abort126 Own ∷ place.Help State127 Own ∷ place.Counter74 ∷ []
  pub second_cas_state : state_at (took 7 0 lost_parent).records (record_no 2) ≡ aborted
  pub second_cas_says : ends 22 0 lost_parent ≡ shown (Ok (Some Yes)) 78 11 5 0
  -- line 91: a MARK with ABORT is not frozen; a find of 3 passes the marked p
  pub marked_parent : update_at lost_sibling.nodes (node 8) ≡ update mark (record_no 5)
  pub marked_state : state_at lost_sibling.records (record_no 5) ≡ aborted
  pub mark_with_abort : ends 0 2 (find 2 (pos 3) lost_sibling) ≡ shown (Ok (Some Yes)) 12 16 6 0
  -- lines 97 to 99: TRY is helped (8 turns), COMMIT is not; then a whole attempt at depth 2
  pub line98_try : places_of 5 0 (marked 14) ≡ place.Leaf164 ∷ place.Frozen97 ∷ place.Frozen97 ∷ place.State98 ∷ place.Help Counter111 Again ∷ []
  pub line98_try_says : ends 6 0 (marked 14) ≡ shown (Ok (Some Yes)) 41 12 4 0
  pub line98_commit : places_of 5 0 (marked 18) ≡ place.Leaf164 ∷ place.Frozen97 ∷ place.Frozen97 ∷ place.State98 ∷ place.Counter74 ∷ []
  pub line98_commit_says : ends 6 0 (marked 18) ≡ shown (Ok (Some Yes)) 33 12 4 0
  -- 'in EXECUTE's line 98 the state is read a second time'
  pub line98_again : places_of 2 0 between97and98 ≡ place.State98 ∷ place.Counter74 ∷ []
  -- line 85: the Root's left child is no longer the old one, and stays
  pub late_child_before : child_at late_child.nodes root true ≡ node 6
  pub late_child_after : child_at (took 1 0 late_child).nodes root true ≡ node 6
  pub late_child_says : ends 15 0 late_child ≡ shown (Ok (Some Yes)) 18 7 3 0
  -- a MARK with COMMIT met by line 53: HELP takes its turns and changes nothing
  pub commit_places : places_of 8 1 stale_parent ≡ place.Link Leaf64 Word52 ∷ place.Link Leaf64 State53 ∷ place.Help Counter111 Again ∷ place.Help Try113 Again ∷ place.Help State114 Again ∷ place.Help State125 Again ∷ place.Help State127 Again ∷ place.Counter74 ∷ []
  pub commit_tables : same_tables (tables_of (took 7 1 stale_parent)) (tables_of stale_parent) ≡ true
  -- nobody asked on the way; at the ends the tables are sound
  pub sound : sound_of (done 0 (done 1 scan_aborts)) && (sound_of (done 2 find_aborts) && (sound_of (done 0 late_flag) && (sound_of (done 0 lost_parent) && (sound_of (done 2 (find 2 (pos 3) lost_sibling)) && (sound_of (done 0 (marked 14)) && (sound_of (done 0 between97and98) && (sound_of (done 0 late_child) && sound_of (done 1 stale_parent)))))))) ≡ true

pub helping : Helping
unfolding steps_opened fresh insert delete find scans show took done ends place_in places_of same_list same_tables two three flagged5 scan_aborts find_aborts late_flag lost_parent lost_sibling marked between97and98 late_child stale_parent
helping = record {
  scan_places = refl;
  scan_says = refl;
  record_aborted = refl;
  insert_sees = refl;
  insert_says = refl;
  find_sees = refl;
  find_says = refl;
  first_cas = refl;
  first_cas_next = refl;
  first_cas_root = refl;
  first_cas_record = refl;
  second_cas = refl;
  second_cas_state = refl;
  second_cas_says = refl;
  marked_parent = refl;
  marked_state = refl;
  mark_with_abort = refl;
  line98_try = refl;
  line98_try_says = refl;
  line98_commit = refl;
  line98_commit_says = refl;
  line98_again = refl;
  late_child_before = refl;
  late_child_after = refl;
  late_child_says = refl;
  commit_places = refl;
  commit_tables = refl;
  sound = refl;
}
