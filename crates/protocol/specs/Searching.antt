-- What an attempt knows on its way down (line 39), at its leaf, and of the sibling (line 182): a walk of its phase, whose nodes are never twice the same.
use Rattle.std.specs.Prelude.{ℕ, ◌≤◌, ◌≡◌, refl, List, [], ◌∷◌, Bool, true, false, not, Option, None, Some}
use Rattle.std.proofs.Common.{sym, ap, ◌∙◌, subst, inl, inr, true≢false}
use Rattle.shapes.specs.declared.NodeNo.{NodeNo}
use Rattle.trees.specs.Members.{Mem}
use Rattle.trees.specs.Version.{Child, walk_low}
use Rattle.trees.specs.Scanning.{at, between, current_new}
use Rattle.views.specs.View.{View}
use Rattle.protocol.specs.Ghost.{Ghost}
use Rattle.protocol.specs.Invariant.{Holds}
use Rattle.protocol.specs.Rely.{Rely}
use Rattle.protocol.specs.Trees.{leaf_of, store, Linked, TreeStep}
use Rattle.protocol.specs.Deleting.{Four}
use Rattle.protocol.specs.Walks.{Walks, walks_kept, pushes, visits, sees, pops}

-- gp is absent, or one of the nodes gone through
abbrev pub GoneBy : Option NodeNo → List ℕ → Type 0
GoneBy None vs = Unit {0}
GoneBy (Some g) vs = Mem g.0 vs

-- at p, on the way down; the walk may yet be taken for one with what waits on either side
pub record Searching (X : View) (G : Ghost) (q : ℕ) (gp : Option NodeNo) (p : ℕ) : Type 0 where
  pub gone : List ℕ
  pub walks : (a : Bool) → Walks X G q a (at p) [] gone []
  pub grand : GoneBy gp gone

-- at leaf l, found on the side not a of p
pub record Landed (X : View) (G : Ghost) (q : ℕ) (gp : Option NodeNo) (p l : ℕ) (a : Bool) : Type 0 where
  pub gone : List ℕ
  pub walks : Walks X G q a between (p ∷ []) (p ∷ gone) (l ∷ [])
  pub grand : GoneBy gp gone
  pub low : (X.fixed l).phase ≤ q

module _ (o : ℕ) (X X' : View) (G G' : Ghost) (H : Holds X G) (L : Rely o X X' G G') (t : TreeStep X X' G G') (q : ℕ) (gp : Option NodeNo) (p : ℕ) where
  pub searching_kept : Searching X G q gp p → Searching X' G' q gp p
  searching_kept s = record { gone = s.gone; walks = λ a. walks_kept o X X' G G' H L t (s.walks a); grand = s.grand }

  pub landed_kept : (l : ℕ) (a : Bool) → Landed X G q gp p l a → Landed X' G' q gp p l a
  landed_kept l a s = record { gone = s.gone; walks = walks_kept o X X' G G' H L t s.walks; grand = s.grand; low = rw (L.fixed l (H.used l (s.walks.seen l (inl refl)))) s.low }

-- ---- its own turns

module _ (X : View) (G : Ghost) (H : Holds X G) (q : ℕ) (gp : Option NodeNo) (p : NodeNo) (s : Searching X G q gp p.0) (inner : leaf_of (X.fixed p.0) ≡ false) where
  -- down to an internal node: p is its grandparent's place
  pub goes_down : (e : Bool) (c : ℕ) → Child (store X) q e p.0 c → Searching X G q (Some p) c
  goes_down e c w = record { gone = p.0 ∷ s.gone; walks = λ a. visits X G H a (s.walks a) e inner w; grand = inl refl }

  -- out with a leaf
  pub lands : (a : Bool) (c : ℕ) → Child (store X) q (not a) p.0 c → leaf_of (X.fixed c) ≡ true → Landed X G q gp p.0 c a
  lands a c w leaf = record { gone = s.gone; walks = sees X G H a (pushes X G H a (s.walks a) inner w) leaf; grand = s.grand; low = walk_low w }

-- ---- what it tells

module _ (X : View) (G : Ghost) (q : ℕ) (gp : Option NodeNo) (p l : ℕ) (a : Bool) (s : Landed X G q gp p l a) where
  pub p_linked : Linked G p
  p_linked = s.walks.visited p (inl refl)

  pub l_linked : Linked G l
  l_linked = s.walks.seen l (inl refl)

  pub p_inner : leaf_of (X.fixed p) ≡ false
  p_inner = s.walks.scanning.been.inner p (inl refl)

  pub l_leaf : leaf_of (X.fixed l) ≡ true
  l_leaf = s.walks.scanning.been.leaves l (inl refl)

  pub p_low : (X.fixed p).phase ≤ q
  p_low = s.walks.scanning.been.low p (inl refl)

  -- line 182: the other child
  pub other_child : Holds X G → (c : ℕ) → Child (store X) q a p c → Walks X G q a (at c) [] (p ∷ s.gone) (l ∷ [])
  other_child H c w = pops X G H a s.walks p_inner w

module _ (X : View) (G : Ghost) (q : ℕ) (g : NodeNo) (p l : ℕ) (a : Bool) (s : Landed X G q (Some g) p l a) where
  pub g_is_linked : Linked G g.0
  g_is_linked = s.walks.visited g.0 (inr s.grand)

  pub g_inner : leaf_of (X.fixed g.0) ≡ false
  g_inner = s.walks.scanning.been.inner g.0 (inr s.grand)

  -- gp, p, l and the other child are four nodes
  pub four_nodes : Holds X G → (c : ℕ) → Child (store X) q a p c → Four g.0 p l c
  four_nodes H c w =
      let new = current_new (other_child X G q (Some g) p l a s H c w).scanning in
      record {
        gp = λ e. s.walks.scanning.been.distinct.0 (subst (λ n. Mem n s.gone) e s.grand);
        gl = λ e. kinds g.0 l e g_inner (l_leaf X G q (Some g) p l a s);
        gs = λ e. new.0 (inr (subst (λ n. Mem n s.gone) e s.grand));
        pl = λ e. kinds p l e (p_inner X G q (Some g) p l a s) (l_leaf X G q (Some g) p l a s);
        ps = λ e. new.0 (inl (sym e));
        ls = λ e. new.2 (inl (sym e));
      }
    where
      kinds : (m n : ℕ) → m ≡ n → leaf_of (X.fixed m) ≡ false → leaf_of (X.fixed n) ≡ true → ⊥
      kinds m n e f t = true≢false (sym t ∙ ap (λ i. leaf_of (X.fixed i)) (sym e) ∙ f)
