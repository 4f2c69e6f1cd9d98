-- What each clause of 'sound' means, as a proposition over the values that it speaks of.
use Rattle.std.specs.Prelude.{ℕ, zero, suc, ◌*◌, ◌≤◌, ◌<◌, ◌≡◌, ◌⊎◌, List, true, false, length, Option, None, Some}
use Rattle.shapes.specs.Numbers.{least_n, most_n, least_m, most_m, least_p, most_p, last_phase}
use Rattle.shapes.specs.declared.NodeNo.{NodeNo}
use Rattle.shapes.specs.declared.Rank.{Rank}
use Rattle.shapes.specs.declared.Update.{Update}
use Rattle.shapes.specs.declared.Entry.{Entry}
use Rattle.shapes.specs.declared.Filling.{Filling}
use Rattle.shapes.specs.declared.Totals.{Totals}
use Rattle.shapes.specs.declared.Locals.{Locals}
use Rattle.shapes.specs.declared.Worker.{Worker}
use Rattle.shapes.specs.declared.Kind.TheVariants as kind
use Rattle.shapes.specs.declared.Place.{Place}
use Rattle.shapes.specs.declared.Place.TheVariants as place
use Rattle.shapes.specs.declared.Operation.{Operation}
use Rattle.shapes.specs.declared.Operation.TheVariants.{Insert, Delete, Find, Scan}
use Rattle.tables.specs.Names.{node, record_no, root, dummy}
use Rattle.tables.specs.Rows.{HasRows}
use Rattle.tables.specs.Nodes.{node_width, is_internal, child_at, update_at}
use Rattle.tables.specs.NodeWrites.{Fixed, fixed_at}
use Rattle.tables.specs.Records.{record_width, aborted, unfilled, count_at, state_at}
use Rattle.tables.specs.RecordWrites.{filling_at}
use Rattle.tables.specs.World.{Tables, World, totals_of, tables_of, worker_at, pending_at}
use Rattle.sound.specs.Homes.{listed, attempt_home, scan_home, in_list}

-- ---- numbers that refer to used ones

pub record WordSound (t : Totals) (u : Update) : Type 0 where
  pub type : u.mark ≤ 1
  pub info : u.info.0 < t.records

abbrev pub MaybeSound : Totals → Option NodeNo → Type 0
MaybeSound t None = Unit {0}
MaybeSound t (Some x) = x.0 < t.nodes

pub record SizesSound (n m p : ℕ) : Type 0 where
  pub n_at_least : least_n ≤ n
  pub n_at_most : n ≤ most_n
  pub m_at_least : least_m ≤ m
  pub m_at_most : m ≤ most_m
  pub p_at_least : least_p ≤ p
  pub p_at_most : p ≤ most_p

pub record UsedSound (t : Totals) : Type 0 where
  pub least_nodes : 3 ≤ t.nodes
  pub most_nodes : t.nodes ≤ t.n
  pub least_records : 1 ≤ t.records
  pub most_records : t.records ≤ t.m
  pub counter : t.counter ≤ last_phase

-- ---- nodes

pub record RankSound (k : Rank) : Type 0 where
  pub class : k.class ≤ 2
  pub word : (k.class ≡ 0) ⊎ (k.word ≡ 0)

abbrev pub PrevSound : ℕ → Option NodeNo → Type 0
PrevSound n None = Unit {0}
PrevSound n (Some x) = x.0 < n

-- a node by its number, its fixed fields, its children and its update word
pub record NodeSound (t : Totals) (n : ℕ) (f : Fixed) (left right : NodeNo) (u : Update) : Type 0 where
  pub kind : f.kind ≤ 1
  pub rank : RankSound f.rank
  pub phase : f.phase ≤ t.counter
  pub prev : PrevSound n f.prev
  pub update : WordSound t u
  pub parents : f.kind ≡ 1 → (left.0 < t.nodes) × (right.0 < t.nodes)
  pub leaves : (f.kind ≡ 1 → ⊥) → (left.0 ≡ 0) × (right.0 ≡ 0)

-- the Root as fresh but for its children and update word
pub record RootSound (f : Fixed) : Type 0 where
  pub kind : f.kind ≡ 1
  pub class : f.rank.class ≡ 2
  pub word : f.rank.word ≡ 0
  pub phase : f.phase ≡ 0
  pub prev : f.prev ≡ None

-- ---- records

pub record EntrySound (t : Totals) (e : Entry) : Type 0 where
  pub node : e.node.0 < t.nodes
  pub old : WordSound t e.old
  pub mark : e.mark ≤ 1

-- nodes[i], oldUpdate[i] and mark, i from 1
unfoldable pub entry_of : Filling → ℕ → Entry
entry_of f zero = f.first
entry_of f (suc zero) = f.first
entry_of f (suc (suc zero)) = f.second
entry_of f (suc (suc (suc zero))) = f.third
entry_of f (suc (suc (suc (suc k)))) = f.fourth

abbrev pub CountSound : List ℕ → Filling → Type 0
CountSound ns f = (f.count ≡ 0) ⊎ (((f.count ≡ 2) ⊎ (f.count ≡ 4)) × (is_internal ns f.par ≡ true))

-- a record by what it holds and its state
pub record RecordSound (t : Totals) (ns : List ℕ) (f : Filling) (s : ℕ) : Type 0 where
  pub count : CountSound ns f
  pub state : s ≤ aborted
  pub par : f.par.0 < t.nodes
  pub old : f.old.0 < t.nodes
  pub new : f.new.0 < t.nodes
  pub seq : f.seq.0 ≤ t.counter
  pub entries : (i : ℕ) → i < f.count → EntrySound t (entry_of f (suc i))

-- ---- workers

pub record HandSound (t : Totals) (v : Locals) : Type 0 where
  pub seq : v.seq.0 ≤ t.counter
  pub gp : MaybeSound t v.gp
  pub p : v.p.0 < t.nodes
  pub l : v.l.0 < t.nodes
  pub gpup : WordSound t v.gpup
  pub pup : WordSound t v.pup
  pub lup : WordSound t v.lup
  pub sup : WordSound t v.sup
  pub up : WordSound t v.up
  pub sibling : v.sibling.0 < t.nodes
  pub made : v.made.0 < t.nodes
  pub info : v.info.0 < t.records

-- a place in a list lies within that list
abbrev pub Within : List ℕ → ℕ → Locals → ℕ → Place → Type 0
Within rs k v n place.Counter74 = Unit {0}
Within rs k v n place.Search39 = Unit {0}
Within rs k v n (place.Link a s) = Unit {0}
Within rs k v n place.Word66 = Unit {0}
Within rs k v n place.Grand66 = Unit {0}
Within rs k v n place.Leaf164 = Unit {0}
Within rs k v n place.Sibling182 = Unit {0}
Within rs k v n place.CopyLeft = Unit {0}
Within rs k v n place.CopyRight = Unit {0}
Within rs k v n place.Word189 = Unit {0}
Within rs k v n place.Leaf190 = Unit {0}
Within rs k v n place.Frozen97 = (1 ≤ v.i) × (v.i ≤ k)
Within rs k v n place.State98 = (1 ≤ v.i) × (v.i ≤ k)
Within rs k v n place.Freeze103 = Unit {0}
Within rs k v n (place.Help s b) = in_list s ≡ true → (1 ≤ v.i) × (v.i ≤ count_at rs v.info)
Within rs k v n place.Counter130 = Unit {0}
Within rs k v n place.Bump131 = Unit {0}
Within rs k v n place.Word139 = Unit {0}
Within rs k v n place.State140 = Unit {0}
Within rs k v n place.Child141 = Unit {0}
Within rs k v n place.Left144 = 0 < n

-- the place is one of the operation's
abbrev pub PlaceSound : List ℕ → Locals → ℕ → Operation → Type 0
PlaceSound rs v n (Insert k q) = (attempt_home kind.Insert q ≡ true) × Within rs (listed kind.Insert) v n q
PlaceSound rs v n (Delete k q) = (attempt_home kind.Delete q ≡ true) × Within rs (listed kind.Delete) v n q
PlaceSound rs v n (Find k q) = (attempt_home kind.Find q ≡ true) × Within rs (listed kind.Find) v n q
PlaceSound rs v n (Scan a b q) = (scan_home q ≡ true) × Within rs 0 v n q

abbrev pub ConditionSound : List ℕ → Locals → ℕ → Option Operation → Type 0
ConditionSound rs v n None = Unit {0}
ConditionSound rs v n (Some o) = PlaceSound rs v n o

-- a worker, with its pending nodes as a function of their place
pub record WorkerSound (t : Totals) (rs : List ℕ) (pending : ℕ → NodeNo) (k : Worker) : Type 0 where
  pub most_pending : k.pending ≤ t.n
  pub most_found : k.found ≤ t.n
  pub pending_used : (i : ℕ) → i < k.pending → (pending i).0 < t.nodes
  pub hand : HandSound t k.hand
  pub place : ConditionSound rs k.hand k.pending k.operation

-- ---- the whole

-- what the workers share
pub record TablesSound (s : Tables) : Type 0 where
  pub node-rows : HasRows node_width s.nodes s.totals.n
  pub record_rows : HasRows record_width s.records s.totals.m
  pub used : UsedSound s.totals
  pub root-row : RootSound (fixed_at s.nodes root)
  pub dummy-row : filling_at s.records dummy ≡ unfilled
  pub dummy_state : state_at s.records dummy ≡ aborted
  pub nodes : (n : ℕ) → n < s.totals.nodes → NodeSound s.totals n (fixed_at s.nodes (node n)) (child_at s.nodes (node n) true) (child_at s.nodes (node n) false) (update_at s.nodes (node n))
  pub records : (n : ℕ) → 0 < n → n < s.totals.records → RecordSound s.totals s.nodes (filling_at s.records (record_no n)) (state_at s.records (record_no n))

pub record Sound (s : World) : Type 0 where
  pub sizes : SizesSound (totals_of s).n (totals_of s).m (totals_of s).p
  pub pending_lent : (totals_of s).p * (totals_of s).n ≤ length s.pending
  pub found_lent : (totals_of s).p * (totals_of s).n ≤ length s.found
  pub shared : TablesSound (tables_of s)
  pub workers : (w : ℕ) → w < (totals_of s).p → WorkerSound (totals_of s) s.records (pending_at s w) (worker_at s w)
