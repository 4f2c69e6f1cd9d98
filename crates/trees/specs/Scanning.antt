-- A scan of phase i under way: where it stands, what is ahead of it, and where it has been.
use Rattle.std.specs.Prelude.{◌≡◌, List, [], ◌∷◌, Bool, false, ℕ, ◌≤◌}
use Rattle.std.proofs.Common.{inl, inr}
use Rattle.trees.specs.Members.{Mem, Distinct}
use Rattle.trees.specs.Shape.{Shape, none, both, node, In, Once}
use Rattle.trees.specs.Version.{Store, Child, IsTree, tree_top, tree_side}
use Rattle.trees.specs.Been.{Been}

-- at a node; or done with a leaf, and before the other child of the node pushed last
pub data Stand : Type 0 where
  at : ℕ → Stand
  between : Stand

-- what is to be read from where the scan stands
abbrev pub Here : Store → ℕ → Stand → Shape → Type 0
Here S i (at cur) s = (S.phase cur ≤ i) × IsTree S i cur s
Here S i between s = s ≡ none

-- the pending nodes, last first, and what is still to be read on side a of each; of a scan that is the left
pub data Pending (S : Store) (i : ℕ) (a : Bool) : List ℕ → Shape → Type 0 where
  end : Pending S i a [] none
  waits : {u c : ℕ} {us : List ℕ} {s t : Shape} → Child S i a u c → IsTree S i c s → Pending S i a us t → Pending S i a (u ∷ us) (node u s t)

pub record Scanning (S : Store) (i : ℕ) (a : Bool) (stand : Stand) (us vs ls : List ℕ) : Type 0 where
  pub here : Shape
  pub there : Shape
  pub reads : Here S i stand here
  pub rest : Pending S i a us there
  pub once : Once (both here there)
  pub been : Been S i us vs ls (both here there)

-- ---- what a scan under way tells

pub pending_in : {S : Store} {i : ℕ} {a : Bool} {us : List ℕ} {t : Shape} → Pending S i a us t → (n : ℕ) → Mem n us → In n t
pending_in end n = λ m. m
pending_in (waits w y P) n = elim [ inl e ↦ inl e | inr m ↦ inr (inr (pending_in P n m)) ]

pub pending_once : {S : Store} {i : ℕ} {a : Bool} {us : List ℕ} {t : Shape} → Pending S i a us t → Once t → Distinct us
pending_once end o = tt
pending_once (waits {u = u} w y P) o = (λ m. o.4 (pending_in P u m), pending_once P o.1)

pub pending_child : {S : Store} {i u : ℕ} {a : Bool} {us : List ℕ} {t : Shape} → Pending S i a (u ∷ us) t → (c : ℕ) × Child S i a u c
pending_child (waits {c = c} w y P) = (c, w)

module _ {S : Store} {i : ℕ} {a : Bool} {us vs ls : List ℕ} where
  -- no node is pending twice
  pub distinct_pending : {stand : Stand} → Scanning S i a stand us vs ls → Distinct us
  distinct_pending G = pending_once G.rest G.once.1

  -- the present node was not visited, is not pending, and is no leaf seen
  pub current_new : {cur : ℕ} → Scanning S i a (at cur) us vs ls → (Mem cur vs → ⊥) × (Mem cur us → ⊥) × (Mem cur ls → ⊥)
  current_new {cur} G =
      let top : In cur G.here = tree_top G.reads.1 in
      let off : Mem cur us → ⊥ = λ m. G.once.2 cur top (pending_in G.rest cur m) in
      (λ m. off (G.been.passed cur m (inl top)), off, λ m. G.been.seen cur m (inl top))

  -- where it is internal it has both its children
  pub has_child : {cur : ℕ} → Scanning S i a (at cur) us vs ls → S.leaf cur ≡ false → (e : Bool) → (c : ℕ) × Child S i e cur c
  has_child G inner e = let part = (tree_side e G.reads.1 inner).reads in (part.end, part.walk)

-- a pending node has its child on that side
pub has_pending : {S : Store} {i u : ℕ} {a : Bool} {stand : Stand} {us vs ls : List ℕ} → Scanning S i a stand (u ∷ us) vs ls → (c : ℕ) × Child S i a u c
has_pending G = pending_child G.rest
