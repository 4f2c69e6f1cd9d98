-- An attempt's way down: Counter read (line 74), and READCHILD on k's side (line 39), on to an internal node or out with a leaf.
use Rattle.std.specs.Prelude.{ℕ, ◌≤◌, ◌≡◌, refl, [], Bool, true, false, not, Some}
use Rattle.std.proofs.Math.Path.{sym, subst}
use Rattle.std.proofs.Common.{ap, ◌∙◌}
use native.Mathlib.Omega.{arith}
use Rattle.shapes.specs.declared.NodeNo.{NodeNo}
use Rattle.shapes.specs.declared.Key.{Key}
use Rattle.shapes.specs.declared.Locals.{Locals}
use Rattle.shapes.specs.declared.Kind.{Kind}
use Rattle.shapes.specs.declared.Link.TheVariants.{Leaf64}
use Rattle.shapes.specs.declared.LinkStep.TheVariants.{Word52}
use Rattle.shapes.specs.declared.Place.TheVariants as place
use Rattle.tables.specs.Names.{phase}
use Rattle.tables.specs.Nodes.{is_internal, key_at}
use Rattle.tables.specs.NodeWrites.{fixed_at}
use Rattle.tables.specs.World.{Tables}
use Rattle.sound.specs.Meaning.{TablesSound}
use Rattle.steps.specs.Hand.{at_root, down_to, with_leaf, goes}
use Rattle.steps.specs.Validate.{link_parent}
use Rattle.steps.specs.Search.{goes_left, landed, search39}
use Rattle.trees.specs.Version.{Child}
use Rattle.views.specs.View.{view}
use Rattle.protocol.specs.Ghost.{Ghost}
use Rattle.protocol.specs.Invariant.{Holds}
use Rattle.protocol.specs.Trees.{leaf_of, store, Linked, Version}
use Rattle.protocol.specs.Reading.{found_child}
use Rattle.protocol.specs.Walks.{starts}
use Rattle.protocol.specs.Searching.{Searching, goes_down, lands}
use Rattle.protocol.specs.AttemptPlaces.{searched}
use Rattle.protocol.specs.AttemptTurns.{Decides, goes_knows, with-node, by_test, parent_is}

-- ---- kinds and sides, of the tables and of the view

pub internal_inner : (s : Tables) (x : NodeNo) → is_internal s.nodes x ≡ true → leaf_of ((view s).fixed x.0) ≡ false
unfolding is_internal view fixed_at leaf_of
internal_inner s x e = ap not e

pub external_leaf : (s : Tables) (x : NodeNo) → is_internal s.nodes x ≡ false → leaf_of ((view s).fixed x.0) ≡ true
unfolding is_internal view fixed_at leaf_of
external_leaf s x e = ap not e

pub left_is : (s : Tables) (k : Key) (x : NodeNo) → goes_left s.nodes k x ≡ searched (view s) k x.0
unfolding goes_left key_at view fixed_at
left_is s k x = refl

pub twice_not : (b : Bool) → not (not b) ≡ b
twice_not true = refl
twice_not false = refl

pub same_node_lem : {x y : NodeNo} → Some x ≡ Some y → x ≡ y
same_node_lem e = cc

module _ (w : ℕ) (s : Tables) (h : TablesSound s) (G : Ghost) (H : Holds (view s) G) (o : Kind) (k : Key) where
  -- line 74: from the Root of Counter's version
  pub counter74 : Linked G 0 → Version (view s) s.totals.counter → Decides w s G o k (goes (at_root (phase s.totals.counter)) place.Search39)
  unfolding view fixed_at
  counter74 root version =
      let low : ((view s).fixed 0).phase ≤ s.totals.counter = let z = h.root-row.phase in omega arith in
      goes_knows w s G H o k (at_root (phase s.totals.counter)) place.Search39 (record { gone = []; walks = λ a. starts (view s) G H root low version; grand = tt })

  module _ (v : Locals) (S : Searching (view s) G v.seq.0 v.gp v.p.0) (inner : is_internal s.nodes v.p ≡ true) (c : NodeNo) where
    -- line 36
    found39 : Child (store (view s)) v.seq.0 (goes_left s.nodes k v.p) v.p.0 c.0 → Decides w s G o k (landed s.nodes v c)
    unfolding landed link_parent
    found39 r = by_test w s G H o k _ _ _
        (λ i. goes_knows w s G H o k (down_to v c) place.Search39 (goes_down (view s) G H v.seq.0 v.gp v.p S (internal_inner s v.p inner) (goes_left s.nodes k v.p) c.0 r))
        (λ i. goes_knows w s G H o k (with_leaf v c) (place.Link Leaf64 Word52) (lands (view s) G H v.seq.0 v.gp v.p S (internal_inner s v.p inner) (not (searched (view s) k v.p.0)) c.0 side (external_leaf s c i), tt))
      where
        side : Child (store (view s)) v.seq.0 (not (not (searched (view s) k v.p.0))) v.p.0 c.0
        side = subst (λ b. Child (store (view s)) v.seq.0 b v.p.0 c.0) (left_is s k v.p ∙ sym (twice_not _)) r

  -- line 39
  pub search_decides : (v : Locals) → Searching (view s) G v.seq.0 v.gp v.p.0 → Decides w s G o k (search39 s.totals s.nodes k v)
  unfolding search39
  search_decides v S = with-node w s G H o k _ _ (λ p e. with-node w s G H o k _ _ (λ c d.
      let at = parent_is s (Some v.p) p e in
      let same : p ≡ v.p = sym (same_node_lem at.0) in
      found39 v S (rw same at at.1) c (rw same at (found_child s h v.seq p c (goes_left s.nodes k p) d))))
