-- A walk under way in a version: a scan, with what waits on the left, or the search of a delete, with the sibling to come. All that it has come to is linked.
-- Turns of others keep it, and its own moves are those of the trees.
use Rattle.std.specs.Prelude.{ℕ, ◌≤◌, ◌≡◌, refl, List, [], ◌∷◌, Bool, true, false, not}
use Rattle.std.proofs.Common.{sym, subst, inl, inr}
use Rattle.trees.specs.Members.{All}
use Rattle.trees.specs.Version.{Child}
use Rattle.trees.specs.Frame.{walk_in}
use Rattle.trees.specs.Scanning.{Stand, at, between, Scanning}
use Rattle.trees.specs.Moves.{scan_starts, scan_pushes, scan_visits, scan_sees, scan_pops}
use Rattle.trees.specs.ScanFrame.{StandIn}
use Rattle.views.specs.View.{View}
use Rattle.protocol.specs.Ghost.{Ghost}
use Rattle.protocol.specs.Invariant.{Holds}
use Rattle.protocol.specs.Rely.{Rely}
use Rattle.protocol.specs.Trees.{leaf_of, store, inner_kind, Linked, closed, Version, TreeStep, scan_kept}

pub record Walks (X : View) (G : Ghost) (i : ℕ) (a : Bool) (stand : Stand) (us vs ls : List ℕ) : Type 0 where
  pub scanning : Scanning (store X) i a stand us vs ls
  pub here : StandIn (Linked G) stand
  pub visited : All (Linked G) vs
  pub seen : All (Linked G) ls

-- ---- the turns of others

module _ (o : ℕ) (X X' : View) (G G' : Ghost) (H : Holds X G) (L : Rely o X X' G G') where
  stands_kept : (stand : Stand) → StandIn (Linked G) stand → StandIn (Linked G') stand
  stands_kept (at n) h = L.linked n h
  stands_kept between h = h

  pub walks_kept : TreeStep X X' G G' → {i : ℕ} {a : Bool} {stand : Stand} {us vs ls : List ℕ} → Walks X G i a stand us vs ls → Walks X' G' i a stand us vs ls
  walks_kept t {stand = stand} W = record {
    scanning = scan_kept X X' G G' H t W.scanning W.here W.visited W.seen;
    here = stands_kept stand W.here;
    visited = λ n m. L.linked n (W.visited n m);
    seen = λ n m. L.linked n (W.seen n m);
  }

-- ---- its own moves

one_more : (G : Ghost) (vs : List ℕ) (x : ℕ) → Linked G x → All (Linked G) vs → All (Linked G) (x ∷ vs)
one_more G vs x l all n (inl e) = subst (Linked G) (sym e) l
one_more G vs x l all n (inr m) = all n m

module _ (X : View) (G : Ghost) (H : Holds X G) {i : ℕ} where
  -- a version's child of a linked node is linked
  pub child_linked : (e : Bool) (v c : ℕ) → Linked G v → leaf_of (X.fixed v) ≡ false → Child (store X) i e v c → Linked G c
  child_linked e v c l inner w = walk_in (closed X G H) (H.kids v l (inner_kind _ inner) e) w

  pub starts : {a : Bool} → Linked G 0 → (X.fixed 0).phase ≤ i → Version X i → Walks X G i a (at 0) [] [] []
  starts root low v = record { scanning = scan_starts low v.tree v.once; here = root; visited = λ n m. absurd m; seen = λ n m. absurd m }

  module _ (a : Bool) {us vs ls : List ℕ} {cur : ℕ} (W : Walks X G i a (at cur) us vs ls) where
    -- one child, with the other to follow on side a
    pub pushes : {c : ℕ} → leaf_of (X.fixed cur) ≡ false → Child (store X) i (not a) cur c → Walks X G i a (at c) (cur ∷ us) (cur ∷ vs) ls
    pushes {c} inner w = record { scanning = scan_pushes a W.scanning inner w; here = child_linked (not a) cur c W.here inner w; visited = one_more G vs cur W.here W.visited; seen = W.seen }

    -- one child alone
    pub visits : (e : Bool) {c : ℕ} → leaf_of (X.fixed cur) ≡ false → Child (store X) i e cur c → Walks X G i a (at c) us (cur ∷ vs) ls
    visits e {c} inner w = record { scanning = scan_visits e W.scanning inner w; here = child_linked e cur c W.here inner w; visited = one_more G vs cur W.here W.visited; seen = W.seen }

    -- done with a leaf
    pub sees : leaf_of (X.fixed cur) ≡ true → Walks X G i a between us vs (cur ∷ ls)
    sees leaf = record { scanning = scan_sees W.scanning leaf; here = tt; visited = W.visited; seen = one_more G ls cur W.here W.seen }

  -- the other child of the node pushed last
  pub pops : (a : Bool) {us vs ls : List ℕ} {u c : ℕ} (W : Walks X G i a between (u ∷ us) vs ls) → leaf_of (X.fixed u) ≡ false → Child (store X) i a u c → Walks X G i a (at c) us vs ls
  pops a {u = u} {c = c} W inner w =
      let l : Linked G u = W.visited u (W.scanning.been.pending u (inl refl)) in
      record { scanning = scan_pops W.scanning w; here = child_linked a u c l inner w; visited = W.visited; seen = W.seen }
