-- Worked examples of the version listing: of fresh tables, after evenings, of versions, refused and crooked. They are computed in proofs/Examples.antt.
use Rattle.std.specs.Prelude.{ℕ, ◌≡◌, List, [], ◌∷◌, replicate, ℤ, pos, negsuc}
use Rattle.shapes.specs.declared.Refusal.TheVariants as refusal
use Rattle.tables.specs.Names.{phase}
use Rattle.tables.specs.World.{World}
use Rattle.steps.specs.Play.{fresh, insert, delete, scans, done}
use Rattle.steps.specs.Hands.{with_node, with_used, with_counter, phase_word, left_word, right_word}
use Rattle.steps.specs.Errors.{old_scan}
use Rattle.steps.specs.Deletes.{two, three}
use Rattle.listing.specs.Listing.{Listed, listed, refused, list_of}

-- a lent list of n places, full of nines
abbrev pub nines : ℕ → List ℤ
nines n = replicate n (pos 9)

-- version q, listed into N = 16 places
unfoldable pub version : ℕ → World → Listed
version q s = list_of s (phase q) (nines 16)

unfoldable pub inserted : ℤ → World → World
inserted k s = done 0 (insert 0 k s)

-- a whole scan, for the sake of its phase
unfoldable pub next_phase : World → World
next_phase s = done 1 (scans 1 (pos 0) (pos 9) s)

-- 5 comes in phase 0, 3 in phase 1; 5 goes in phase 2
unfoldable pub three_phases : World
three_phases = done 0 (delete 0 (pos 5) (next_phase (inserted (pos 3) (next_phase (inserted (pos 5) (fresh 16 4))))))

-- ---- by hand

-- the Root is its own left child
unfoldable pub cycle : World
cycle = with_node 0 left_word 0 (fresh 16 4)

-- below the Root, 5 and 8 both children are the same node, 5, 8 and 11; the leaves of 11 (keys 5 and 7) are met eight times each
unfoldable pub shared : World
shared = with_node 0 left_word 5 (with_node 0 right_word 5 (with_node 5 left_word 8 (with_node 5 right_word 8 (with_node 8 left_word 11 (with_node 8 right_word 11 three)))))

-- leaf 1, the Root's left child, is of phase 1 and has no prev
unfoldable pub too_late : World
too_late = with_node 1 phase_word 1 (with_counter 1 (fresh 16 4))

pub record Examples : Type 0 where
  -- only finite keys; the places behind them keep their contents
  pub of_fresh : version 0 (fresh 16 4) ≡ listed 0 (nines 16)
  -- 'from left to right (from fresh tables that is rising)'
  pub rising : version 0 three ≡ listed 3 (pos 3 ∷ pos 5 ∷ pos 7 ∷ nines 13)
  pub negative : version 0 (inserted (negsuc 0) (inserted (pos 0) (inserted (negsuc 2147483647) (fresh 16 4)))) ≡ listed 3 (negsuc 2147483647 ∷ negsuc 0 ∷ pos 0 ∷ nines 13)
  pub left_to_right : version 0 (with_node 8 left_word 7 (with_node 8 right_word 6 (two 16 4))) ≡ listed 2 (pos 5 ∷ pos 3 ∷ nines 14)
  -- 'through version-i children': the old scan of Errors, and three phases
  pub old_version : version 0 old_scan.world ≡ listed 0 (nines 16)
  pub new_version : version 1 old_scan.world ≡ listed 1 (pos 5 ∷ nines 15)
  pub phase0 : version 0 three_phases ≡ listed 1 (pos 5 ∷ nines 15)
  pub phase1 : version 1 three_phases ≡ listed 2 (pos 3 ∷ pos 5 ∷ nines 14)
  pub phase2 : version 2 three_phases ≡ listed 1 (pos 3 ∷ nines 15)
  -- 'a phase i from 0 to 65,535': a later one than Counter sees the newest children
  pub last_phase : version 65535 three_phases ≡ listed 1 (pos 3 ∷ nines 15)
  -- 'a list shorter than N is refused 1', and so are tables that are not sound; the list stays as it was
  pub too_short : list_of three (phase 0) (nines 15) ≡ refused refusal.Table (nines 15)
  pub longer : list_of three (phase 0) (nines 17) ≡ listed 3 (pos 3 ∷ pos 5 ∷ pos 7 ∷ nines 14)
  pub unsound : version 0 (with_counter 65536 three) ≡ refused refusal.Table (nines 16)
  -- 'crooked (7) if a path meets more internal nodes than are used'
  pub a_cycle : version 0 cycle ≡ refused refusal.Crooked (nines 16)
  pub table_first : list_of cycle (phase 0) (nines 15) ≡ refused refusal.Table (nines 15)
  -- 'if a prev walk fails'
  pub walk_fails : version 0 too_late ≡ refused refusal.Crooked (nines 16)
  pub walk_holds : version 1 too_late ≡ listed 0 (nines 16)
  -- 'if more leaves are met than nodes are used': 16 leaves with 12 and with 15 nodes used, but not with 16
  pub many_leaves : version 0 shared ≡ refused refusal.Crooked (nines 16)
  pub one_too_many : version 0 (with_used 15 4 shared) ≡ refused refusal.Crooked (nines 16)
  pub just_enough : version 0 (with_used 16 4 shared) ≡ listed 16 (pos 5 ∷ pos 7 ∷ pos 5 ∷ pos 7 ∷ pos 5 ∷ pos 7 ∷ pos 5 ∷ pos 7 ∷ pos 5 ∷ pos 7 ∷ pos 5 ∷ pos 7 ∷ pos 5 ∷ pos 7 ∷ pos 5 ∷ pos 7 ∷ [])
