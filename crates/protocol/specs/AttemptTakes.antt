-- Line 66 and what follows when the leaf is validated: an insert takes its nodes (lines 161 to 163), a delete comes to line 182 and reads the sibling.
use Rattle.std.specs.Prelude.{ℕ, ◌+◌, ◌≤◌, ◌≡◌, ◌≢◌, Bool, true, false, eqb, ltb, leb, Option, None, Some}
use Rattle.std.proofs.Math.Path.{refl, sym, ap, subst}
use Rattle.std.proofs.Common.{◌∙◌, true≢false}
use Rattle.std.proofs.Math.Bool.{not}
use borrow.Author.Tests.{ltb-true, ltb-false, eqb-true, eqb-false, le-leb, lt-leb}
use Rattle.laws.specs.Tests.{says_and, says_le}
use Rattle.shapes.specs.declared.NodeNo.{NodeNo}
use Rattle.shapes.specs.declared.Key.{Key}
use Rattle.shapes.specs.declared.Locals.{Locals}
use Rattle.shapes.specs.declared.Kind.{Kind}
use Rattle.shapes.specs.declared.Kind.TheVariants as kind
use Rattle.shapes.specs.declared.Link.TheVariants.{Sibling183}
use Rattle.shapes.specs.declared.LinkStep.TheVariants.{Word52}
use Rattle.shapes.specs.declared.Effect.TheVariants as effect
use Rattle.shapes.specs.declared.Answer.TheVariants.{Yes, No, NoRoom}
use Rattle.shapes.specs.declared.Place.TheVariants as place
use Rattle.tables.specs.Names.{node, record_no, same_node}
use Rattle.tables.specs.Nodes.{key_at}
use Rattle.tables.specs.NodeWrites.{Fixed, fixed_at}
use Rattle.tables.specs.World.{Tables}
use Rattle.sound.specs.Meaning.{TablesSound}
use Rattle.steps.specs.Hand.{with_taken, with_sibling}
use Rattle.steps.specs.Validate.{link_parent, sibling_left}
use Rattle.steps.specs.Attempt.{room, take_three, reaches182, validated, word66, grand66, sibling182}
use Rattle.trees.specs.Version.{Child, walk_low}
use Rattle.views.specs.View.{View, view}
use Rattle.protocol.specs.Ghost.{Ghost}
use Rattle.protocol.specs.Invariant.{Holds}
use Rattle.protocol.specs.Rely.{Rely}
use Rattle.protocol.specs.Trees.{leaf_of, store, inner_kind, kind_inner}
use Rattle.protocol.specs.Reading.{found_child}
use Rattle.protocol.specs.Walks.{child_linked}
use Rattle.protocol.specs.Knowledge.{Taken, settled_kept}
use Rattle.protocol.specs.Plants.{Plants}
use Rattle.protocol.specs.Inserting.{Inserting}
use Rattle.protocol.specs.TakeMoves.{three_moves}
use Rattle.protocol.specs.Searching.{Landed, p_linked, l_linked, p_inner, l_leaf, four_nodes}
use Rattle.protocol.specs.AttemptPlaces.{searched, opposite, LeafHeld, LinksHeld, Under, Siblingless, Paired}
use Rattle.protocol.specs.AttemptTurns.{gives_more, Decides, does_knows, goes_knows, says_knows, retries_knows, with-node, by_test, parent_is}
use Rattle.protocol.specs.AttemptSearch.{same_node_lem}

pub leaf_kind : (f : Fixed) → leaf_of f ≡ true → f.kind ≢ 1
leaf_kind f h e = true≢false (sym h ∙ kind_inner f e)

-- a record and three nodes more, and what was known of p and l
inserting_starts : (w : ℕ) (X X' : View) (G G' : Ghost) (H : Holds X G) (L : Rely w X X' G G') (k : Key) (v : Locals) (a : LeafHeld X G k v) (r top : ℕ) → Taken w X' G' r × Plants X' G' r top v.l.0 v.seq.0 → Inserting w X' G' (with_taken v (node top) (record_no r))
inserting_starts w X X' G G' H L k v a r top new =
    let p-in = p_linked X G _ _ _ _ _ a.landed in
    let l-in = l_linked X G _ _ _ _ _ a.landed in
    let same-p : X'.fixed v.p.0 ≡ X.fixed v.p.0 = L.fixed _ (H.used _ p-in) in
    let same-l : X'.fixed v.l.0 ≡ X.fixed v.l.0 = L.fixed _ (H.used _ l-in) in
    record {
      taken = new.0;
      plants = new.1;
      p_linked = L.linked _ p-in;
      l_linked = L.linked _ l-in;
      inner = rw same-p (inner_kind _ (p_inner X G _ _ _ _ _ a.landed));
      leaf = rw same-l (leaf_kind _ (l_leaf X G _ _ _ _ _ a.landed));
      phase = rw same-l a.landed.low;
      pup = settled_kept w X X' G G' L _ _ a.pup;
    }

-- the side not searched is the one opposite to a leaf with that key
not_less : (a b : ℕ) → leb a b ≡ not (ltb b a)
not_less a b = by (ltb b a) refl
  where
    by : (t : Bool) → ltb b a ≡ t → leb a b ≡ not t
    by true e = lt-leb a b (ltb-true b a e)
    by false e = le-leb a b (ltb-false b a e)

module _ (w : ℕ) (s : Tables) (h : TablesSound s) (G : Ghost) (H : Holds (view s) G) (k : Key) (v : Locals) where
  pub room_fits : (j : ℕ) → room s.totals j ≡ true → (s.totals.nodes + j ≤ s.totals.n) × (s.totals.records + 1 ≤ s.totals.m)
  unfolding room
  room_fits j e = (says_and (says_le _ _) (says_le _ _)).out e

  -- lines 161 to 163
  three_decides : LeafHeld (view s) G k v → Decides w s G kind.Insert k (take_three s.totals k v)
  unfolding take_three
  three_decides a = by_test w s G H kind.Insert k _ _ _
      (λ r. let fits = room_fits 3 r in
      does_knows w s G H kind.Insert k (effect.TakeThree k v.l v.seq) (with_taken v (node (s.totals.nodes + 2)) (record_no s.totals.records)) place.Leaf164
      (gives_more (λ G' L _ new. inserting_starts w (view s) _ G G' H L k v a s.totals.records (s.totals.nodes + 2) new) (three_moves s h w G H k v.l v.seq fits.0 fits.1)))
      (λ _. says_knows w s G H kind.Insert k NoRoom)

  -- line 182 is reached
  opposite_is : eqb (key_at s.nodes v.l) k.0 ≡ true → not (searched (view s) k v.p.0) ≡ opposite (view s) v.p.0 v.l.0
  unfolding key_at view fixed_at
  opposite_is e =
      let same : key_at s.nodes v.l ≡ k.0 = eqb-true _ _ e in
      sym (not_less (key_at s.nodes v.p) (key_at s.nodes v.l) ∙ ap (λ n. not (ltb n (key_at s.nodes v.p))) same)

  reaches_decides : LinksHeld (view s) G k v → eqb (key_at s.nodes v.l) k.0 ≡ true → (m : Option NodeNo) → v.gp ≡ m → Decides w s G kind.Delete k (reaches182 v m)
  unfolding reaches182 same_node
  reaches_decides a e None is = tt
  reaches_decides a e (Some g) is = by_test w s G H kind.Delete k _ _ _ (λ _. tt)
      (λ r. goes_knows w s G H kind.Delete k v place.Sibling182 (record {
        grand = g;
        is = is;
        knows = record {
          landed = subst (λ b. Landed (view s) G v.seq.0 (Some g) v.p.0 v.l.0 b) (opposite_is e) (subst (λ m. Landed (view s) G v.seq.0 m v.p.0 v.l.0 (not (searched (view s) k v.p.0))) is a.leaf.landed);
          pup = a.leaf.pup;
          gpup = a.gpup g is (eqb-false _ _ r);
        };
      }))

  validated_decides : (o : Kind) → LinksHeld (view s) G k v → Decides w s G o k (validated s.totals s.nodes o k v)
  unfolding validated
  validated_decides kind.Find a = by_test w s G H kind.Find k _ _ _ (λ _. says_knows w s G H kind.Find k Yes) (λ _. says_knows w s G H kind.Find k No)
  validated_decides kind.Insert a = by_test w s G H kind.Insert k _ _ _ (λ _. says_knows w s G H kind.Insert k No) (λ _. three_decides a.leaf)
  validated_decides kind.Delete a = by_test w s G H kind.Delete k _ _ _ (λ e. reaches_decides a e v.gp refl) (λ _. says_knows w s G H kind.Delete k No)

  -- line 66
  pub word_decides : (o : Kind) → LinksHeld (view s) G k v → Decides w s G o k (word66 s.totals s.nodes o k v)
  unfolding word66
  word_decides o a = with-node w s G H o k _ _ (λ p _. by_test w s G H o k _ _ _
      (λ _. by_test w s G H o k _ _ _ (λ _. validated_decides o a) (λ _. goes_knows w s G H o k v place.Grand66 a))
      (λ _. retries_knows w s G H o k))

  pub grand_decides : (o : Kind) → LinksHeld (view s) G k v → Decides w s G o k (grand66 s.totals s.nodes o k v)
  unfolding grand66
  grand_decides o a = with-node w s G H o k _ _ (λ p _. by_test w s G H o k _ _ _ (λ _. validated_decides o a) (λ _. retries_knows w s G H o k))

  -- line 182
  opposite-left : sibling_left s.nodes v ≡ opposite (view s) v.p.0 v.l.0
  unfolding sibling_left key_at view fixed_at
  opposite-left = refl

  paired : (g c : NodeNo) → Siblingless (view s) G v g → Child (store (view s)) v.seq.0 (sibling_left s.nodes v) v.p.0 c.0 → Paired (view s) G (with_sibling v c) g
  paired g c a r =
      let there : Child (store (view s)) v.seq.0 (opposite (view s) v.p.0 v.l.0) v.p.0 c.0 = rw opposite-left at r in
      record {
        before = record { landed = a.landed; pup = a.pup; gpup = a.gpup };
        four = four_nodes (view s) G v.seq.0 g v.p.0 v.l.0 _ a.landed H c.0 there;
        linked = child_linked (view s) G H _ v.p.0 c.0 (p_linked (view s) G _ _ _ _ _ a.landed) (p_inner (view s) G _ _ _ _ _ a.landed) there;
        low = walk_low there;
      }

  pub sibling_decides : Under v.gp (Siblingless (view s) G v) → Decides w s G kind.Delete k (sibling182 s.totals s.nodes v)
  unfolding sibling182 link_parent
  sibling_decides u = with-node w s G H kind.Delete k _ _ (λ p e. with-node w s G H kind.Delete k _ _ (λ c d.
      let same : p ≡ v.p = sym (same_node_lem (parent_is s (Some v.p) p e).0) in
      let r = found_child s h v.seq p c (sibling_left s.nodes v) d in
      goes_knows w s G H kind.Delete k (with_sibling v c) (place.Link Sibling183 Word52) (record { grand = u.grand; is = u.is; knows = paired u.grand c u.knows (rw same at r) }, tt)))
