-- I: the internal nodes now in use whose phase is at most i. A scan's visits are no more, so its turns are fewer than 2 + 16 × I while it has no answer.
use Rattle.std.specs.Prelude.{ℕ, ◌+◌, ◌*◌, ◌≤◌, ◌<◌, ◌≡◌, refl, List, Bool, true, false, not, ◌&&◌, leb, length}
use Rattle.std.proofs.Math.Logic.{inl, inr}
use Rattle.std.proofs.Common.{arith}
use Rattle.shapes.specs.declared.Locals.{Locals}
use Rattle.shapes.specs.declared.Place.{Place}
use Rattle.tables.specs.Names.{node}
use Rattle.tables.specs.Nodes.{is_internal, phase_at}
use Rattle.tables.specs.NodeWrites.{fixed_at}
use Rattle.tables.specs.World.{Tables}
use Rattle.trees.specs.Count.{count, count_most, count_same}
use Rattle.trees.specs.Scanning.{Stand, at, distinct_pending}
use Rattle.trees.specs.Bound.{early, visited_most, visiting_most, seeing_most}
use Rattle.views.specs.View.{View, view}
use Rattle.protocol.specs.Ghost.{Ghost}
use Rattle.protocol.specs.Invariant.{Holds}
use Rattle.protocol.specs.Trees.{leaf_of, store}
use Rattle.protocol.specs.ScanPlaces.{help_left, OnWalk, AtNode, ScanKnows, by_place}

unfoldable pub inner_nodes : View → ℕ → ℕ
inner_nodes X i = count X.nodes (early (store X) i)

-- the same, read off the tables
pub inner_nodes_lem : (s : Tables) (i : ℕ) → inner_nodes (view s) i ≡ count s.totals.nodes (λ n. is_internal s.nodes (node n) && leb (phase_at s.nodes (node n)).0 i)
unfolding inner_nodes view early leaf_of is_internal fixed_at
inner_nodes_lem s i = count_same s.totals.nodes _ _ (λ n l. rw (twice (is_internal s.nodes (node n))))
  where
    twice : (b : Bool) → not (not b) ≡ b
    twice true = refl
    twice false = refl

module _ (X : View) (G : Ghost) (H : Holds X G) {i : ℕ} {us : List ℕ} {found T more : ℕ} where
  -- what it has visited, and what it stands at
  pub visits_most : {stand : Stand} (k : OnWalk X G i stand us found T more) → length k.visited ≤ inner_nodes X i
  unfolding inner_nodes
  visits_most k = visited_most X.nodes k.visited k.walks.scanning k.walks.scanning.been.distinct (λ n m. m) (λ n m. H.used n (k.walks.visited n m))

  pub node_most : {p : ℕ} (k : AtNode X G i p us found T more) → length k.on.visited < inner_nodes X i
  unfolding inner_nodes
  node_most k = visiting_most X.nodes k.on.visited k.on.walks.scanning k.inner k.on.walks.scanning.been.distinct (λ n m. m)
      (λ n. elim [ inl e ↦ rw e (H.used _ k.on.walks.here) | inr m ↦ H.used n (k.on.walks.visited n m) ])

  -- the lists have room: for one more pending node, and for one more key
  pub pending_room : {p : ℕ} (k : AtNode X G i p us found T more) → length us < X.nodes
  pending_room k =
      let few : length us < count X.nodes (early (store X) i) = visiting_most X.nodes us k.on.walks.scanning k.inner (distinct_pending k.on.walks.scanning) k.on.walks.scanning.been.pending
      (λ n. elim [ inl e ↦ rw e (H.used _ k.on.walks.here) | inr m ↦ H.used n (k.on.walks.visited n (k.on.walks.scanning.been.pending n m)) ]) in
      omega (arith, count_most X.nodes (early (store X) i))

  pub found_room : {c : ℕ} (k : OnWalk X G i (at c) us found T more) → leaf_of (X.fixed c) ≡ true → found < X.nodes
  found_room k leaf =
      let few : length k.leaves < count X.nodes (λ n. leaf_of (X.fixed n)) = seeing_most X.nodes k.walks.scanning leaf (λ n. elim [ inl e ↦ rw e (H.used _ k.walks.here) | inr m ↦ H.used n (k.walks.seen n m) ]) in
      omega (arith, count_most X.nodes (λ n. leaf_of (X.fixed n)), k.keys)

module _ (X : View) (G : Ghost) (H : Holds X G) where
  -- at an internal node all 16 of its turns are not yet taken
  node-short : {i p found T more : ℕ} {us : List ℕ} → more < 16 → AtNode X G i p us found T more → T < 2 + 16 * inner_nodes X i
  node-short low k = omega (arith, k.on.turns, node_most X G H k)

  pub scan-short : (v : Locals) (us : List ℕ) (found T : ℕ) (q : Place) → ScanKnows X G v us found T q → T < 2 + 16 * inner_nodes X v.seq.0
  scan-short v us found T = by_place X G v us found T (λ _. T < 2 + 16 * inner_nodes X v.seq.0)
      (λ b k. let l : T + help_left b v.i < 2 + 16 * inner_nodes X v.seq.0 = node-short (omega arith) k.0 in omega arith)
      (λ k. omega (arith, k.taken))
      (λ k. omega (arith, k.taken))
      (node-short (omega arith))
      (λ k. node-short (omega arith) k.0)
      (node-short (omega arith))
      (λ k. omega (arith, k.0.turns, k.1, visits_most X G H k.0))
