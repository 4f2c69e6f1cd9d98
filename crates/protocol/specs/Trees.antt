-- The trees of versions in the view, and what a turn does to them: nothing, or the link of one child.
use Rattle.std.specs.Prelude.{ℕ, ◌≡◌, refl, ◌⊎◌, List, Bool, true, false, not, eqb}
use Rattle.std.proofs.Common.{sym, ap, ◌∙◌, subst, inl, inr, true≢false, arith, eq-eqb, ne_eqb, eqb-true}
use Rattle.tables.specs.NodeWrites.{Fixed}
use Rattle.trees.specs.Members.{All}
use Rattle.trees.specs.Shape.{Shape, Once, Free}
use Rattle.trees.specs.Version.{Store, set_kid, IsTree}
use Rattle.trees.specs.Frame.{Closed, Agree, tree_in, tree_frame}
use Rattle.trees.specs.Change.{Fits, tree_changed}
use Rattle.trees.specs.Scanning.{Stand, Scanning}
use Rattle.trees.specs.ScanChange.{scan_changed}
use Rattle.trees.specs.ScanFrame.{StandIn, scan-within, scan_frame}
use Rattle.views.specs.View.{View}
use Rattle.protocol.specs.Ghost.{Ghost}
use Rattle.protocol.specs.Invariant.{Holds}

-- the nodes as the trees see them
unfoldable pub leaf_of : Fixed → Bool
leaf_of f = not (eqb f.kind 1)

abbrev pub store : View → Store
store X = record { phase = λ n. (X.fixed n).phase; prev = λ n. (X.fixed n).prev; leaf = λ n. leaf_of (X.fixed n); kid = X.kid }

pub inner_kind : (f : Fixed) → leaf_of f ≡ false → f.kind ≡ 1
unfolding leaf_of
inner_kind f h = by (eqb f.kind 1) refl h
  where
    by : (b : Bool) → eqb f.kind 1 ≡ b → not b ≡ false → f.kind ≡ 1
    by true e d = eqb-true _ _ e
    by false e d = absurd (true≢false d)

pub kind_inner : (f : Fixed) → f.kind ≡ 1 → leaf_of f ≡ false
unfolding leaf_of
kind_inner f h = rw (eq-eqb _ _ h)

pub kind_leaf : (f : Fixed) → f.kind ≡ 0 → leaf_of f ≡ true
unfolding leaf_of
kind_leaf f h = rw (ne_eqb f.kind 1 (λ e. omega arith))

abbrev pub Linked : Ghost → ℕ → Type 0
Linked G n = G.linked n ≡ true

-- what is linked leads only to what is linked
pub closed : (X : View) (G : Ghost) → Holds X G → Closed (store X) (Linked G)
closed X G H = record { kid = λ e n u h. H.kids n u (inner_kind _ h) e; prev = λ n x u e. H.prevs n x.0 u e }

-- the version of phase i: a tree from the Root with no node twice
pub record Version (X : View) (i : ℕ) : Type 0 where
  pub shape : Shape
  pub tree : IsTree (store X) i 0 shape
  pub once : Once shape

-- ---- what a turn does to the trees

-- one child linked, of nodes that were not linked before
pub record Links (X X' : View) (G G' : Ghost) : Type 0 where
  pub side : Bool
  pub par : ℕ
  pub new : ℕ
  pub after : store X' ≡ set_kid (store X) side par new
  pub fits : (i : ℕ) → Fits (store X) side par new (λ n. G.linked n ≡ false) i

-- nothing that is linked is touched, and nothing is linked
pub record Leaves (X X' : View) (G G' : Ghost) : Type 0 where
  pub fixed : (n : ℕ) → Linked G n → X'.fixed n ≡ X.fixed n
  pub kid : (s : Bool) (n : ℕ) → Linked G n → X'.kid s n ≡ X.kid s n

abbrev pub TreeStep : View → View → Ghost → Ghost → Type 0
TreeStep X X' G G' = Leaves X X' G G' ⊎ Links X X' G G'

leaves_agree : (X X' : View) (G G' : Ghost) → Leaves X X' G G' → Agree (store X) (store X') (Linked G)
leaves_agree X X' G G' L = record {
  phase = λ n u. ap (λ (f : Fixed). f.phase) (L.fixed n u);
  prev = λ n u. ap (λ (f : Fixed). f.prev) (L.fixed n u);
  leaf = λ n u. ap leaf_of (L.fixed n u);
  kid = λ e n u h. L.kid e n u;
}

module _ (X X' : View) (G G' : Ghost) (H : Holds X G) where
  -- the versions stay trees
  pub version_kept : (root : Linked G 0) → TreeStep X X' G G' → (i : ℕ) → Version X i → Version X' i
  version_kept root (inl L) i v = record { shape = v.shape; tree = tree_frame (closed X G H) (leaves_agree X X' G G' L) root v.tree; once = v.once }
  version_kept root (inr L) i v =
      let free : Free (λ n. G.linked n ≡ false) v.shape = λ n new j. true≢false (sym (tree_in (closed X G H) root v.tree n j) ∙ new) in
      let g = tree_changed (L.fits i) v.tree v.once free in
      record { shape = g.to; tree = subst (λ S. IsTree S i 0 g.to) (sym L.after) g.tree; once = g.once }

  -- and a scan under way stays one
  pub scan_kept : TreeStep X X' G G' → {i : ℕ} {a : Bool} {stand : Stand} {us vs ls : List ℕ} → Scanning (store X) i a stand us vs ls → StandIn (Linked G) stand → All (Linked G) vs → All (Linked G) ls → Scanning (store X') i a stand us vs ls
  scan_kept (inl L) S here visited seen = scan_frame (closed X G H) (leaves_agree X X' G G' L) S here visited seen
  scan_kept (inr L) {i} {a} {stand} {us} {vs} {ls} S here visited seen =
      subst (λ T. Scanning T i a stand us vs ls) (sym L.after)
      (scan_changed (L.fits i) S (λ n new j. true≢false (sym (scan-within (closed X G H) S here visited n j) ∙ new)) (λ n m new. true≢false (sym (visited n m) ∙ new)) (λ n m new. true≢false (sym (seen n m) ∙ new)))
