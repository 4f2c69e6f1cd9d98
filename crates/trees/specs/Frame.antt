-- A store that agrees with another on nodes that lead only to one another has the same trees from them.
use Rattle.std.specs.Prelude.{◌≡◌, Bool, true, false, ℕ, Some}
use Rattle.std.proofs.Common.{sym, ◌∙◌, subst, inl, inr}
use Rattle.shapes.specs.declared.NodeNo.{NodeNo}
use Rattle.trees.specs.Shape.{Shape, In}
use Rattle.trees.specs.Version.{Store, Walk, here, back, IsTree, leaf_t, node_t, tree_same}

-- children of internal nodes and prevs stay within
pub record Closed (S : Store) (U : ℕ → Type 0) : Type 0 where
  pub kid : (e : Bool) (n : ℕ) → U n → S.leaf n ≡ false → U (S.kid e n)
  pub prev : (n : ℕ) (x : NodeNo) → U n → S.prev n ≡ Some x → U x.0

pub record Agree (S T : Store) (U : ℕ → Type 0) : Type 0 where
  pub phase : (n : ℕ) → U n → T.phase n ≡ S.phase n
  pub prev : (n : ℕ) → U n → T.prev n ≡ S.prev n
  pub leaf : (n : ℕ) → U n → T.leaf n ≡ S.leaf n
  pub kid : (e : Bool) (n : ℕ) → U n → S.leaf n ≡ false → T.kid e n ≡ S.kid e n

module _ {S : Store} {U : ℕ → Type 0} (closed : Closed S U) where
  pub walk_in : {i n m : ℕ} → U n → Walk S i n m → U m
  walk_in u (here h) = u
  walk_in u (back {n = n} {x = x} h e w) = walk_in (closed.prev n x u e) w

  pub tree_in : {i v : ℕ} {s : Shape} → U v → IsTree S i v s → (n : ℕ) → In n s → U n
  tree_in u (leaf_t {v = v} h) n = λ e. subst U (sym e) u
  tree_in u (node_t {v = v} h wa ta wb tb) n = elim [
    | inl e ↦ subst U (sym e) u
    | inr (inl j) ↦ tree_in (walk_in (closed.kid true v u h) wa) ta n j
    | inr (inr j) ↦ tree_in (walk_in (closed.kid false v u h) wb) tb n j
  ]

  module _ {T : Store} (agree : Agree S T U) where
    pub walk_frame : {i n m : ℕ} → U n → Walk S i n m → Walk T i n m
    walk_frame u (here {n = n} h) = here {n = n} (rw (agree.phase n u) h)
    walk_frame u (back {n = n} {x = x} h e w) = back {n = n} (rw (agree.phase n u) h) (agree.prev n u ∙ e) (walk_frame (closed.prev n x u e) w)

    pub child_frame : (i : ℕ) (e : Bool) (n c : ℕ) → U n → S.leaf n ≡ false → Walk S i (S.kid e n) c → Walk T i (T.kid e n) c
    child_frame i e n c u h w = rw (agree.kid e n u h) (walk_frame (closed.kid e n u h) w)

    pub tree_frame : {i v : ℕ} {s : Shape} → U v → IsTree S i v s → IsTree T i v s
    tree_frame {i} u t = tree_same (λ n j. agree.leaf n (tree_in u t n j)) (λ e n c j. child_frame i e n c (tree_in u t n j)) t
