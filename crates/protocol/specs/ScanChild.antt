-- What a turn of a scan is to give; and where it reads a child, that it does: never crooked, and where it answers it has taken at most 2 + 16 × I turns.
use Rattle.std.specs.Prelude.{ℕ, suc, ◌+◌, ◌*◌, ◌≤◌, ◌<◌, ◌≡◌, refl, List, ◌∷◌, Bool, not, eqb, ltb, length, Option, None, Some}
use Rattle.std.proofs.Common.{ap, inl, true≢false, arith}
use Rattle.std.proofs.Math.Bool.{true, false}
use borrow.Author.Tests.{ltb-false, eqb-false}
use Rattle.laws.specs.Choice.{pick_true, fork}
use Rattle.shapes.specs.declared.NodeNo.{NodeNo}
use Rattle.shapes.specs.declared.Key.{Key}
use Rattle.shapes.specs.declared.PendingChange.{PendingChange}
use Rattle.shapes.specs.declared.Next.{Next}
use Rattle.shapes.specs.declared.Next.TheVariants as next
use Rattle.shapes.specs.declared.Step.{Step}
use Rattle.shapes.specs.Outcomes.{Decision}
use Rattle.tables.specs.Names.{node}
use Rattle.tables.specs.Nodes.{is_internal, rank_at, child_at}
use Rattle.tables.specs.NodeWrites.{fixed_at}
use Rattle.tables.specs.Versions.{as_parent}
use Rattle.tables.specs.World.{Tables}
use Rattle.sound.specs.Meaning.{TablesSound}
use Rattle.steps.specs.Hand.{through}
use Rattle.steps.specs.Apply.{apply}
use Rattle.steps.specs.Scan.{Range, leaves, comes_to, reads}
use Rattle.steps.specs.Turn.{found_left}
use Rattle.trees.specs.Version.{Child}
use Rattle.trees.specs.Scanning.{Stand, at, between}
use Rattle.views.specs.View.{view}
use Rattle.protocol.specs.Ghost.{Ghost}
use Rattle.protocol.specs.Invariant.{Holds}
use Rattle.protocol.specs.Rely.{rely_same}
use Rattle.protocol.specs.Trees.{leaf_of, store, inner_kind, Linked}
use Rattle.protocol.specs.Reading.{child_found}
use Rattle.protocol.specs.Walks.{sees}
use Rattle.protocol.specs.HelpTurns.{Gives}
use Rattle.protocol.specs.Waiting.{waits_next}
use Rattle.protocol.specs.ScanPlaces.{OnWalk, ScanKnows}
use Rattle.protocol.specs.ScanCount.{inner_nodes, visits_most, found_room}

-- what a decision is to give, of a scan of phase i after T turns, with us pending and so many keys found
module _ (w : ℕ) (s : Tables) (G : Ghost) (i : ℕ) (us : List ℕ) (keys T : ℕ) where
  abbrev pub Onward : Step → Next → Type 0
  Onward d (next.At q) = Gives w (view s) (view (apply d.effect s)) G (λ G'. ScanKnows (view (apply d.effect s)) G' d.hand (waits_next us d.pending) (found_left keys d.found) (suc T) q)
  Onward d (next.Answers a) = Gives w (view s) (view (apply d.effect s)) G (λ G'. Unit {0}) × (suc T ≤ 2 + 16 * inner_nodes (view (apply d.effect s)) i)

  abbrev pub Decided : Decision → Type 0
  Decided None = ⊥
  Decided (Some d) = Onward d d.next

  pub on_through : (m : Option NodeNo) (x : NodeNo) (f : NodeNo → Decision) → m ≡ Some x → Decided (f x) → Decided (through m f)
  unfolding through
  on_through m x f e d = rw e d

-- a turn that only reads
pub looks : (w : ℕ) (s : Tables) (G : Ghost) (H : Holds (view s) G) {Q : Ghost → Type 0} → Q G → Gives w (view s) (view s) G Q
looks w s G H q = record { after = G; holds = H; rely = rely_same w (view s) G; trees = inl (record { fixed = λ n u. refl; kid = λ e n u. refl }); knows = q }

-- an internal node may be used as a parent
pub as_parent_lem : (s : Tables) (x : NodeNo) → leaf_of ((view s).fixed x.0) ≡ false → as_parent s.nodes (Some x) ≡ Some x
unfolding as_parent is_internal leaf_of view fixed_at
as_parent_lem s x e = pick_true _ _ _ (yes_no _ e)
  where
    yes_no : (b : Bool) → not b ≡ false → b ≡ true
    yes_no true d = refl
    yes_no false d = absurd (true≢false d)

pub internal : (s : Tables) (x : NodeNo) (b : Bool) → is_internal s.nodes x ≡ b → leaf_of ((view s).fixed x.0) ≡ not b
unfolding is_internal leaf_of view fixed_at
internal s x b e = ap not e

-- ---- SCANHELPER comes to a child

module _ (w : ℕ) (s : Tables) (h : TablesSound s) (G : Ghost) (H : Holds (view s) G) (g : Range) (us : List ℕ) (keys T : ℕ) (change : PendingChange) (n : ℕ) (long : n ≡ length (waits_next us change)) where
  abbrev D : Decision → Type 0
  D = Decided w s G g.seq.0 us keys T

  abbrev On : Stand → ℕ → Type 0
  On stand k = OnWalk (view s) G g.seq.0 stand (waits_next us change) k (suc T) 0

  done_leaf : (add : Option Key) (k : ℕ) → On between (found_left keys add) → D (leaves g change add n k)
  unfolding leaves apply
  done_leaf add k on = fork D (eqb n 0)
      (λ _. (looks w s G H tt, omega (arith, on.turns, visits_most (view s) G H on)))
      (λ e. looks w s G H (on, let some : n ≡ 0 → ⊥ = eqb-false _ _ e in omega (arith, long)))

  -- the key of a leaf is added, or not
  seen_leaf : (c : NodeNo) (add : Option Key) → found_left keys add ≤ suc keys → leaf_of ((view s).fixed c.0) ≡ true → On (at c.0) keys → On between (found_left keys add)
  seen_leaf c add l leaf on = record { visited = on.visited; leaves = c.0 ∷ on.leaves; walks = sees (view s) G H true on.walks leaf; keys = omega (arith, on.keys); turns = on.turns }

  room : (c : NodeNo) → leaf_of ((view s).fixed c.0) ≡ true → On (at c.0) keys → keys < s.totals.n
  unfolding view
  room c leaf on = let few : keys < s.totals.nodes = found_room (view s) G H on leaf in omega (arith, h.used.most_nodes)

  abbrev key_of : NodeNo → Key
  key_of c = record { 0 = (rank_at s.nodes c).word }

  comes : (c : NodeNo) → On (at c.0) keys → D (comes_to s.totals s.nodes g keys change n c)
  unfolding comes_to apply found_left
  comes c on = fork D (is_internal s.nodes c)
      (λ e. looks w s G H (record { on = on; inner = internal s c true e }))
      (λ e. let leaf = internal s c false e in fork D _
      (λ _. fork D (ltb keys s.totals.n) (λ _. done_leaf (Some (key_of c)) _ (seen_leaf c (Some (key_of c)) (omega arith) leaf on)) (λ f. let full : s.totals.n ≤ keys = ltb-false _ _ f in absurd (omega (arith, room c leaf on))))
      (λ _. done_leaf None _ (seen_leaf c None (omega arith) leaf on)))

  child_used : (x : ℕ) (left : Bool) → Linked G x → leaf_of ((view s).fixed x) ≡ false → (child_at s.nodes (node x) left).0 < s.totals.nodes
  unfolding view
  child_used x true l inner = ((h.nodes x (H.used x l)).parents (inner_kind _ inner)).0
  child_used x false l inner = ((h.nodes x (H.used x l)).parents (inner_kind _ inner)).1

  pub read : (x : NodeNo) (left : Bool) (c : ℕ) → Linked G x.0 → leaf_of ((view s).fixed x.0) ≡ false → Child (store (view s)) g.seq.0 left x.0 c → On (at c) keys → D (reads s.totals s.nodes g keys change n x left)
  unfolding reads
  read x left c l inner walk on = on_through w s G g.seq.0 us keys T _ (node c) _ (child_found s h g.seq x.0 c left (child_used x.0 left l inner) walk) (comes (node c) on)
