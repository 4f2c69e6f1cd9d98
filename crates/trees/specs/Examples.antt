-- An insert and a delete on small trees: what the laws ask for is met there, and what they give is as drawn.
use Rattle.std.specs.Prelude.{◌≡◌, refl, true, false, ◌||◌, not, ℕ, ◌<◌, eqb, ltb, None, Some}
use Rattle.std.proofs.Common.{inl, inr, arith}
use Rattle.laws.specs.Choice.{pick}
use Rattle.laws.specs.Changed.{change, change_on}
use Rattle.trees.specs.Shape.{tip, node, In}
use Rattle.trees.specs.Grown.{Grown}
use Rattle.trees.specs.Version.{Store, set_kid, node_no, here, back, IsTree, leaf_t, node_t, tree_one}
use Rattle.trees.specs.Change.{tree_changed}
use Rattle.trees.specs.Updates.{Insert, Delete, insert-fits}

-- the leaf 1 of the Root 0 gives way to 3, which is over 4 and 5 and of phase 1
unfoldable planted : Store
planted = record {
  phase = λ n. pick (ltb n 3) 0 1;
  prev = λ n. pick (eqb n 3) (Some (node_no 1)) None;
  leaf = λ n. not (eqb n 0 || eqb n 3);
  kid = λ e n. pick e (pick (eqb n 0) 1 4) (pick (eqb n 0) 2 5);
}

inserts : Insert planted true 0 3 (λ n. 2 < n)
unfolding planted pick
inserts = record {
  replaces = refl;
  other = omega arith;
  inner = refl;
  leaves = elim [ true ↦ refl | false ↦ refl ];
  phases = elim [ true ↦ omega arith | false ↦ omega arith ];
  apart = omega arith;
  proper = elim [ true ↦ omega arith | false ↦ omega arith ];
  fresh = omega arith;
  fresh-leaves = elim [ true ↦ omega arith | false ↦ omega arith ];
}

before : (i : ℕ) → IsTree planted i 0 (node 0 (tip 1) (tip 2))
unfolding planted pick
before i = node_t refl (here {n = 1} (omega arith)) (leaf_t refl) (here {n = 2} (omega arith)) (leaf_t refl)

grown : (i : ℕ) → Grown (IsTree (set_kid planted true 0 3) i 0) (λ n. (2 < n) × In 0 (node 0 (tip 1) (tip 2))) (node 0 (tip 1) (tip 2))
grown i = tree_changed (insert-fits inserts i) (before i) (tt, tt, λ n j k. omega arith, λ j. omega arith, λ j. omega arith)
    (λ n l. elim [ inl e ↦ omega arith | inr (inl e) ↦ omega arith | inr (inr e) ↦ omega arith ])

in_version_0 : (grown 0).to ≡ node 0 (tip 1) (tip 2)
unfolding planted pick change change_on
in_version_0 = tree_one (grown 0).tree (node_t refl (back {n = 3} (omega arith) refl (here {n = 1} (omega arith))) (leaf_t refl) (here {n = 2} (omega arith)) (leaf_t refl))

in_version_1 : (grown 1).to ≡ node 0 (node 3 (tip 4) (tip 5)) (tip 2)
unfolding planted pick change change_on
in_version_1 = tree_one (grown 1).tree
    (node_t refl (here {n = 3} (omega arith)) (node_t refl (here {n = 4} (omega arith)) (leaf_t refl) (here {n = 5} (omega arith)) (leaf_t refl)) (here {n = 2} (omega arith)) (leaf_t refl))

-- the node 1 of the Root 0, over the leaf 3 and the node 4, gives way to 7, a copy of 4 of phase 1
unfoldable cut : Store
cut = record {
  phase = λ n. pick (ltb n 7) 0 1;
  prev = λ n. pick (eqb n 7) (Some (node_no 1)) None;
  leaf = λ n. not (ltb n 2 || (eqb n 4 || eqb n 7));
  kid = λ e n. pick e (pick (eqb n 0) 1 (pick (eqb n 1) 3 5)) (pick (eqb n 0) 2 (pick (eqb n 1) 4 6));
}

deletes : Delete cut true 0 7 false 4 (λ n. n ≡ 7)
unfolding cut pick
deletes = record {
  replaces = refl;
  other = omega arith;
  inner = refl;
  sibling = refl;
  phase-old = omega arith;
  phase_sibling = omega arith;
  leaf = refl;
  kids = λ h. elim [ true ↦ refl | false ↦ refl ];
  fresh = refl;
}
