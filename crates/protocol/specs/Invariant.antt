-- The shared invariant, clause by clause.
use Rattle.std.specs.Prelude.{ℕ, ◌≤◌, ◌<◌, ◌≡◌, ◌≢◌, ◌⊎◌, Bool, true, false, None, Some}
use Rattle.shapes.specs.declared.Filling.{Filling}
use Rattle.tables.specs.Names.{node}
use Rattle.tables.specs.NodeWrites.{Fixed}
use Rattle.tables.specs.Records.{trying, committed, aborted}
use Rattle.views.specs.View.{View}
use Rattle.protocol.specs.Ghost.{Ghost, node_of, old_of, par_of, old_child_of, new_child_of, seq_of, link_of, Filled, InList, Past, FrozeAll, Lost, Live, KnownWord, Seen, Final}

-- ---- a filled record

-- The clauses that do not speak of words, states or what was frozen are of parts of a view and of a ghost: where those parts stay,
-- the clauses are the same.

-- its nodes: of what is linked, and of the fixed fields of nodes
pub record Lists (isLinked : ℕ → Bool) (fixed : ℕ → Fixed) (f : Filling) : Type 0 where
  pub two : 2 ≤ f.count
  pub most_listed : f.count ≤ 4
  pub first : node_of f 1 ≡ par_of f
  pub second : node_of f 2 ≡ old_child_of f
  pub linked : (j : ℕ) → InList f j → isLinked (node_of f j) ≡ true
  pub apart : (i j : ℕ) → InList f i → InList f j → node_of f i ≡ node_of f j → i ≡ j
  pub inner : (fixed (par_of f)).kind ≡ 1
  pub old-phase : (fixed (old_child_of f)).phase ≤ seq_of f

-- its new child: of the nodes used, their makers and their fixed fields
pub record Makes (nodes : ℕ) (maker : ℕ → ℕ) (fixed : ℕ → Fixed) (r : ℕ) (f : Filling) : Type 0 where
  pub new_used : new_child_of f < nodes
  pub made : maker (new_child_of f) ≡ r
  pub prev : (fixed (new_child_of f)).prev ≡ Some (node (old_child_of f))
  pub new-phase : (fixed (new_child_of f)).phase ≡ seq_of f

-- what hangs below the new child of an insert: two leaves, made with it
pub record PlantedIn (nodes : ℕ) (fixed : ℕ → Fixed) (kid : Bool → ℕ → ℕ) (isLinked : ℕ → Bool) (maker : ℕ → ℕ) (r : ℕ) (f : Filling) : Type 0 where
  pub left : ℕ
  pub right : ℕ
  pub inner : (fixed (new_child_of f)).kind ≡ 1
  pub kids : isLinked (new_child_of f) ≡ false → (kid true (new_child_of f) ≡ left) × (kid false (new_child_of f) ≡ right)
  pub leaf_left : (fixed left).kind ≡ 0
  pub leaf_right : (fixed right).kind ≡ 0
  pub phase-left : (fixed left).phase ≡ seq_of f
  pub phase_right : (fixed right).phase ≡ seq_of f
  pub no_prev : ((fixed left).prev ≡ None) × ((fixed right).prev ≡ None)
  pub used : (left < nodes) × (right < nodes)
  pub made : (maker left ≡ r) × (maker right ≡ r)
  pub fresh : isLinked (new_child_of f) ≡ false → (isLinked left ≡ false) × (isLinked right ≡ false)
  pub differ : (left ≢ right) × (new_child_of f ≢ left) × (new_child_of f ≢ right)

abbrev pub Planted : View → Ghost → ℕ → Filling → Type 0
Planted X G = PlantedIn X.nodes X.fixed X.kid G.linked G.maker

-- while its word, or the one it is to replace, stands at place j, and its child CAS is still to come
pub record Held (X : View) (r : ℕ) (f : Filling) (j : ℕ) : Type 0 where
  pub open' : link_of X f ≡ old_child_of f
  pub word : (X.update (node_of f j) ≡ old_of f j) ⊎ (((X.update (node_of f j)).info.0 ≡ r) × Live X r)

-- what a delete found: the sibling, and its children in the copy
pub record Copied (X : View) (G : Ghost) (r : ℕ) (f : Filling) : Type 0 where
  pub four : f.count ≡ 4
  pub side : Bool
  pub inner : (X.fixed (old_child_of f)).kind ≡ 1
  pub sibling : Held X r f 2 → X.kid side (old_child_of f) ≡ node_of f 4
  pub copy : (X.fixed (node_of f 4)).kind ≡ 1 → Held X r f 4 → (s : Bool) → X.kid s (new_child_of f) ≡ X.kid s (node_of f 4)
  pub kind : (X.fixed (new_child_of f)).kind ≡ (X.fixed (node_of f 4)).kind
  pub phase : (X.fixed (node_of f 4)).phase ≤ seq_of f

pub record RecordHolds (X : View) (G : Ghost) (r : ℕ) (f : Filling) : Type 0 where
  -- the words that it is to replace
  pub old_final : (j : ℕ) → InList f j → Final X (old_of f j)
  pub old-seen : (j : ℕ) → InList f j → Seen X G (node_of f j) (old_of f j)
  pub old_stamp : (j : ℕ) → InList f j → G.stamp (old_of f j).info.0 < G.stamp r
  -- the nodes that it has frozen
  pub frozen : (v : ℕ) → G.froze r v ≡ true → v < X.nodes
  pub in_order : (v : ℕ) → G.froze r v ≡ true → G.froze r (node_of f 1) ≡ true
  pub later : (v : ℕ) → G.froze r v ≡ true → G.stamp r ≤ G.stamp (X.update v).info.0
  pub holds : (v : ℕ) → G.froze r v ≡ true → Live X r → (X.update v).info.0 ≡ r
  -- its state
  pub tried_state : G.tried r ≡ true → trying ≤ X.state r
  pub trying_tried : X.state r ≡ trying → G.tried r ≡ true
  pub most : X.state r ≤ aborted
  pub commits : X.state r ≡ committed → (G.tried r ≡ true) × FrozeAll G r f × Past X f
  pub aborts : X.state r ≡ aborted → G.tried r ≡ true → Lost X G r f
  -- its nodes, and its new child
  pub lists : Lists G.linked X.fixed f
  pub makes : Makes X.nodes G.maker X.fixed r f
  pub fresh : link_of X f ≡ old_child_of f → G.linked (new_child_of f) ≡ false
  pub kind : Planted X G r f ⊎ Copied X G r f

-- ---- all that the workers share, but for the trees

pub record Holds (X : View) (G : Ghost) : Type 0 where
  pub records : (r : ℕ) → Filled X r → RecordHolds X G r (X.filling r)
  -- the dummy and the unfilled stand in ABORT; what is not filled has done nothing, and is older than all
  pub unfilled : (r : ℕ) → r < X.records → (X.filling r).count ≡ 0 → X.state r ≡ aborted
  pub blank : (r : ℕ) → (Filled X r → ⊥) → (G.stamp r ≡ 0) × (G.tried r ≡ false) × ((v : ℕ) → G.froze r v ≡ false)
  pub dummy : (0 < X.records) × ((X.filling 0).count ≡ 0)
  pub stamps : (r : ℕ) → G.stamp r < G.next
  -- an update word names the dummy, or a filled record that froze its node
  pub words : (v : ℕ) → v < X.nodes → KnownWord X (X.update v) × ((X.update v).info.0 ≢ 0 → G.froze (X.update v).info.0 v ≡ true)
  -- what is linked
  pub used : (v : ℕ) → G.linked v ≡ true → v < X.nodes
  pub kids : (v : ℕ) → G.linked v ≡ true → (X.fixed v).kind ≡ 1 → (s : Bool) → G.linked (X.kid s v) ≡ true
  pub prevs : (v x : ℕ) → G.linked v ≡ true → (X.fixed v).prev ≡ Some (node x) → G.linked x ≡ true
