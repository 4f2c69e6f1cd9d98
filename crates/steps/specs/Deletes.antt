-- A delete turn by turn, with an internal sibling and with a leaf one: what P5 leaves open.
use Rattle.std.specs.Prelude.{ℕ, ◌*◌, ◌≡◌, refl, List, [], ◌∷◌, ◌++◌, true, ◌&&◌, take, drop, pos, Some, Ok}
use Rattle.shapes.specs.declared.Answer.TheVariants.{Yes, NoRoom}
use Rattle.shapes.specs.declared.Link.{Link}
use Rattle.shapes.specs.declared.Link.TheVariants.{Leaf64, Parent65, Sibling183, Left187, Right188}
use Rattle.shapes.specs.declared.LinkStep.TheVariants.{Word52, State53, Child57}
use Rattle.shapes.specs.declared.HelpStep.TheVariants.{Counter111, Try113, State114, Freeze117, Frozen119, Child123, Commit124, State127}
use Rattle.shapes.specs.declared.Back.TheVariants.{Own}
use Rattle.shapes.specs.declared.Place.{Place}
use Rattle.shapes.specs.declared.Place.TheVariants as place
use Rattle.tables.specs.Nodes.{node_width}
use Rattle.tables.specs.World.{World}
use Rattle.sound.specs.Sound.{sound_of}
use Rattle.steps.specs.Opened.{steps_opened}
use Rattle.steps.specs.Play.{fresh, insert, delete, to_the_end, shown, show, took, done, ends, place_in, places_of}

-- 5 and 3: below the Root (0) node 5 (∞1), below it node 8 (key 5) with the leaves 6 (key 3) and 7 (key 5)
unfoldable pub two : ℕ → ℕ → World
two n m = done 0 (insert 0 (pos 3) (done 0 (insert 0 (pos 5) (fresh n m))))

-- and 7: in place of leaf 7 node 11 (key 7) with the leaves 10 (key 5) and 9 (key 7)
unfoldable pub three : World
three = done 0 (insert 0 (pos 7) (two 16 8))

-- and 9: in place of leaf 9 an internal node, which is the sibling of leaf 10
unfoldable pub four : World
four = done 0 (insert 0 (pos 9) three)

-- row x of the nodes
unfoldable pub row : ℕ → World → List ℕ
row x s = take node_width (drop (x * node_width) s.nodes)

-- VALIDATELINK: the word, the frozen test, the child word
abbrev pub link : Link → List Place
link a = place.Link a Word52 ∷ place.Link a State53 ∷ place.Link a Child57 ∷ []

-- one node of HELP's list
abbrev pub freezes : List Place
freezes = place.Help Freeze117 Own ∷ place.Help Frozen119 Own ∷ []

pub record Deletes : Type 0 where
  -- 01 and lines 176 to 192: the leaf validated; the sibling read and validated; its two children copied, left first; two links more;
  -- the leaf's own word last; EXECUTE's four tests; HELP with the three other nodes
  pub places : places_of to_the_end 0 (delete 0 (pos 3) three) ≡
      (place.Counter74 ∷ place.Search39 ∷ place.Search39 ∷ place.Search39 ∷ []) ++ link Leaf64 ++ link Parent65 ++
      (place.Word66 ∷ place.Grand66 ∷ place.Sibling182 ∷ []) ++ link Sibling183 ++ (place.CopyLeft ∷ place.CopyRight ∷ []) ++ link Left187 ++ link Right188 ++
      (place.Leaf190 ∷ place.Frozen97 ∷ place.Frozen97 ∷ place.Frozen97 ∷ place.Frozen97 ∷ place.Freeze103 ∷ []) ++
      (place.Help Counter111 Own ∷ place.Help Try113 Own ∷ place.Help State114 Own ∷ []) ++ freezes ++ freezes ++ freezes ++
      (place.Help Child123 Own ∷ place.Help Commit124 Own ∷ place.Help State127 Own ∷ [])
  -- at depth D, D + 39 turns; one node and one record more
  pub depth3 : ends 0 0 (delete 0 (pos 3) three) ≡ shown (Ok (Some Yes)) 42 13 5 0
  pub depth4 : ends 0 0 (delete 0 (pos 5) four) ≡ shown (Ok (Some Yes)) 43 16 6 0
  -- line 185: node 12 is internal as node 11 is, with its key 7, phase 0 and prev 8, which is p; 'until read, that child of the copy stands as 0'
  pub copy_taken : row 12 (took 16 0 (delete 0 (pos 3) three)) ≡ 1 ∷ 0 ∷ 2147483655 ∷ 0 ∷ 1 ∷ 8 ∷ 0 ∷ 0 ∷ 0 ∷ 0 ∷ []
  pub copy_left : row 12 (took 17 0 (delete 0 (pos 3) three)) ≡ 1 ∷ 0 ∷ 2147483655 ∷ 0 ∷ 1 ∷ 8 ∷ 10 ∷ 0 ∷ 0 ∷ 0 ∷ []
  pub copy_right : row 12 (took 18 0 (delete 0 (pos 3) three)) ≡ 1 ∷ 0 ∷ 2147483655 ∷ 0 ∷ 1 ∷ 8 ∷ 10 ∷ 9 ∷ 0 ∷ 0 ∷ []
  -- 'a leaf sibling's copy needs no turn': its word is read (line 189), so D + 32; P5 has depth 2
  pub leaf_sibling : ends 0 0 (delete 0 (pos 3) (two 16 8)) ≡ shown (Ok (Some Yes)) 35 10 4 0
  pub leaf_places : places_of 6 0 (took 13 0 (delete 0 (pos 3) (two 16 8))) ≡ link Sibling183 ++ (place.Word189 ∷ place.Leaf190 ∷ place.Frozen97 ∷ [])
  -- 'no room, when the taking finds fewer nodes than needed or no record left, and only then, with nothing taken': line 185, in turn D + 13
  pub no_node : ends 0 0 (delete 0 (pos 3) (two 9 8)) ≡ shown (Ok (Some NoRoom)) 16 9 3 0
  pub no_record : ends 0 0 (delete 0 (pos 3) (two 16 3)) ≡ shown (Ok (Some NoRoom)) 16 9 3 0
  pub just_enough : ends 0 0 (delete 0 (pos 3) (two 10 4)) ≡ shown (Ok (Some Yes)) 35 10 4 0
  -- nobody asked on the way; at the ends the tables are sound
  pub sound : sound_of (done 0 (delete 0 (pos 5) four)) && sound_of (done 0 (delete 0 (pos 3) (two 16 8))) ≡ true

pub deletes : Deletes
unfolding steps_opened fresh insert delete show took done ends place_in places_of two three four row
deletes = record { places = refl; depth3 = refl; depth4 = refl; copy_taken = refl; copy_left = refl; copy_right = refl; leaf_sibling = refl; leaf_places = refl; no_node = refl; no_record = refl; just_enough = refl; sound = refl }
