-- The version of a phase: children are reached by the walk along prev, and from a node they make a finite tree.
use Rattle.std.specs.Prelude.{◌≡◌, refl, Bool, true, false, ℕ, ◌≤◌, ◌<◌, Option, Some}
use Rattle.std.proofs.Common.{sym, ap₂, ◌∙◌, inl, inr, true≢false, arith}
use Rattle.std.proofs.Math.Decide.{dec_le}
use Rattle.shapes.specs.declared.NodeNo.{NodeNo}
use Rattle.laws.specs.Changed.{change_on}
use Rattle.trees.specs.Shape.{Shape, tip, node, In, Once}

-- the nodes as the trees see them; kid true is the left child, kid false the right
pub record Store : Type 0 where
  pub phase : ℕ → ℕ
  pub prev : ℕ → Option NodeNo
  pub leaf : ℕ → Bool
  pub kid : Bool → ℕ → ℕ

-- one child changed
abbrev pub set_kid : Store → Bool → ℕ → ℕ → Store
set_kid S d p c = record { phase = S.phase; prev = S.prev; leaf = S.leaf; kid = change_on S.kid d p c }

abbrev pub node_no : ℕ → NodeNo
node_no n = record { 0 = n }

-- READCHILD: from n along prev to the first node of phase i or earlier
pub data Walk (S : Store) (i : ℕ) : ℕ → ℕ → Type 0 where
  here : {n : ℕ} → S.phase n ≤ i → Walk S i n n
  back : {n m : ℕ} {x : NodeNo} → i < S.phase n → S.prev n ≡ Some x → Walk S i x.0 m → Walk S i n m

-- c is the child of v in version i
abbrev pub Child : Store → ℕ → Bool → ℕ → ℕ → Type 0
Child S i e v c = Walk S i (S.kid e v) c

pub data IsTree (S : Store) (i : ℕ) : ℕ → Shape → Type 0 where
  leaf_t : {v : ℕ} → S.leaf v ≡ true → IsTree S i v (tip v)
  node_t : {v a b : ℕ} {s t : Shape} → S.leaf v ≡ false → Child S i true v a → IsTree S i a s → Child S i false v b → IsTree S i b t → IsTree S i v (node v s t)

-- what is read from a child word: the end of its walk, and the tree there
pub record Reads (S : Store) (i word : ℕ) (s : Shape) : Type 0 where
  pub end : ℕ
  pub walk : Walk S i word end
  pub tree : IsTree S i end s

-- ---- walks

pub walk-one : {S : Store} {i n a b : ℕ} → Walk S i n a → Walk S i n b → a ≡ b
walk-one (here h) (here k) = refl
walk-one (here h) (back k e w) = absurd (omega arith)
walk-one (back h e v) (here k) = absurd (omega arith)
walk-one {S} {i} (back {x = x} h e v) (back {m = m} {x = y} k f w) = let same : y ≡ x = cc in walk-one v (rw same at w)

pub walk_low : {S : Store} {i n m : ℕ} → Walk S i n m → S.phase m ≤ i
walk_low (here h) = h
walk_low (back h e w) = walk_low w

-- what is of this phase or earlier is its own end
pub walk_stays : {S : Store} {i n m : ℕ} → S.phase n ≤ i → Walk S i n m → m ≡ n
walk_stays h w = walk-one w (here h)

-- a walk that ends for a phase ends for every later one
pub walk-later : {S : Store} {i j n m : ℕ} → i ≤ j → Walk S i n m → (c : ℕ) × Walk S j n c
walk-later {n = n} l (here h) = (n, here {n = n} (omega arith))
walk-later {S} {i} {j} {n} l (back h e w) = elim (dec_le (S.phase n) j) [ yes k ↦ (n, here k) | no k ↦ let rest = walk-later l w in (rest.0, back {n = n} (omega arith) e rest.1) ]

-- ---- trees

-- the version gives the shape
pub tree_one : {S : Store} {i v : ℕ} {s t : Shape} → IsTree S i v s → IsTree S i v t → s ≡ t
tree_one (leaf_t h) (leaf_t k) = refl
tree_one (leaf_t h) (node_t k wa ta wb tb) = absurd (true≢false (sym h ∙ k))
tree_one (node_t h wa ta wb tb) (leaf_t k) = absurd (true≢false (sym k ∙ h))
tree_one (node_t {v = v} h wa ta wb tb) (node_t k va sa vb sb) = ap₂ (node v) (tree_one ta (rw (walk-one va wa) at sa)) (tree_one tb (rw (walk-one vb wb) at sb))

pub tree_top : {S : Store} {i v : ℕ} {s : Shape} → IsTree S i v s → In v s
tree_top (leaf_t h) = refl
tree_top (node_t h wa ta wb tb) = inl refl

-- one side of an internal node: its part of the shape
pub record Side (S : Store) (i : ℕ) (e : Bool) (v : ℕ) (s : Shape) : Type 0 where
  pub part : Shape
  pub reads : Reads S i (S.kid e v) part
  pub sub : (n : ℕ) → In n part → In n s
  pub once : Once s → Once part
  pub off : Once s → In v part → ⊥

pub tree_side : {S : Store} {i v : ℕ} {s : Shape} (e : Bool) → IsTree S i v s → S.leaf v ≡ false → Side S i e v s
tree_side e (leaf_t h) k = absurd (true≢false (sym h ∙ k))
tree_side true (node_t {a = a} {s = s} h wa ta wb tb) k = record { part = s; reads = record { end = a; walk = wa; tree = ta }; sub = λ n j. inr (inl j); once = λ o. o.0; off = λ o. o.3 }
tree_side false (node_t {b = b} {t = t} h wa ta wb tb) k = record { part = t; reads = record { end = b; walk = wb; tree = tb }; sub = λ n j. inr (inr j); once = λ o. o.1; off = λ o. o.4 }

-- two stores with the same children and leaves in a tree have it in common
pub tree_same : {S T : Store} {i v : ℕ} {s : Shape} → ((n : ℕ) → In n s → T.leaf n ≡ S.leaf n) → ((e : Bool) (n c : ℕ) → In n s → S.leaf n ≡ false → Child S i e n c → Child T i e n c)
    → IsTree S i v s → IsTree T i v s
tree_same leaf child (leaf_t {v = v} h) = leaf_t (leaf v refl ∙ h)
tree_same leaf child (node_t {v = v} {a = a} {b = b} h wa ta wb tb) = node_t (leaf v (inl refl) ∙ h)
    (child true v a (inl refl) h wa) (tree_same (λ n j. leaf n (inr (inl j))) (λ e n c j. child e n c (inr (inl j))) ta)
    (child false v b (inl refl) h wb) (tree_same (λ n j. leaf n (inr (inr j))) (λ e n c j. child e n c (inr (inr j))) tb)
