-- What a run leaves behind beside the tables: ghosts, of which the machine knows nothing. They are carried by existence.
use Rattle.std.specs.Prelude.{ℕ, ◌≤◌, ◌<◌, ◌≡◌, ◌≢◌, ◌⊎◌, Bool, true, false, ltb}
use Rattle.shapes.specs.declared.Update.{Update}
use Rattle.shapes.specs.declared.Filling.{Filling}
use Rattle.tables.specs.Names.{value}
use Rattle.tables.specs.Records.{committed}
use Rattle.sound.specs.Meaning.{entry_of}
use Rattle.views.specs.View.{View}

pub record Ghost : Type 0 where
  -- the order in which records were filled; 0 for the dummy and the unfilled
  pub stamp : ℕ → ℕ
  pub next : ℕ
  -- some freeze CAS of the record on the node has succeeded
  pub froze : ℕ → ℕ → Bool
  -- the record's state was TRY once
  pub tried : ℕ → Bool
  -- the node has been linked into the tree
  pub linked : ℕ → Bool
  -- the record with which a node was taken, and the worker that took a record
  pub maker : ℕ → ℕ
  pub owner : ℕ → ℕ

-- ---- a record's parts

abbrev pub node_of : Filling → ℕ → ℕ
node_of f j = (entry_of f j).node.0

abbrev pub old_of : Filling → ℕ → Update
old_of f j = (entry_of f j).old

abbrev pub par_of : Filling → ℕ
par_of f = f.par.0

abbrev pub old_child_of : Filling → ℕ
old_child_of f = f.old.0

abbrev pub new_child_of : Filling → ℕ
new_child_of f = f.new.0

abbrev pub seq_of : Filling → ℕ
seq_of f = f.seq.0

-- the side that CAS-CHILD takes (line 84), and what stands there
abbrev pub side_of : View → Filling → Bool
side_of X f = ltb (value (X.fixed (new_child_of f)).rank) (value (X.fixed (par_of f)).rank)

abbrev pub link_of : View → Filling → ℕ
link_of X f = X.kid (side_of X f) (par_of f)

-- What is said below of a record and of a word read is said of parts of a view and of a ghost, so that it is the same where they stay.

-- a used record that lists some nodes
pub record FilledIn (records : ℕ) (filling : ℕ → Filling) (r : ℕ) : Type 0 where
  pub used : r < records
  pub some : 0 < (filling r).count

abbrev pub Filled : View → ℕ → Type 0
Filled X = FilledIn X.records X.filling

-- a place in the record's list
pub record InList (f : Filling) (j : ℕ) : Type 0 where
  pub low : 1 ≤ j
  pub high : j ≤ f.count

-- the child CAS of a record cannot succeed any more: what it looks for is gone, and does not come back
abbrev pub Past : View → Filling → Type 0
Past X f = link_of X f ≢ old_child_of f

-- the word that is to be replaced at place j is gone for good
abbrev pub PassedIn : (ℕ → Update) → (ℕ → ℕ) → Filling → ℕ → Type 0
PassedIn update stamp f j = stamp (old_of f j).info.0 < stamp (update (node_of f j)).info.0

abbrev pub Passed : View → Ghost → Filling → ℕ → Type 0
Passed X G = PassedIn X.update G.stamp

-- its nodes before place j are frozen
abbrev pub FrozeToIn : (ℕ → ℕ → Bool) → ℕ → Filling → ℕ → Type 0
FrozeToIn froze r f j = (i : ℕ) → 1 ≤ i → i < j → froze r (node_of f i) ≡ true

abbrev pub FrozeTo : Ghost → ℕ → Filling → ℕ → Type 0
FrozeTo G = FrozeToIn G.froze

-- all its nodes are frozen
abbrev pub FrozeAll : Ghost → ℕ → Filling → Type 0
FrozeAll G r f = (i : ℕ) → InList f i → G.froze r (node_of f i) ≡ true

-- frozen up to some place, and never there: no freeze of r succeeds any more
pub record LostIn (update : ℕ → Update) (stamp : ℕ → ℕ) (froze : ℕ → ℕ → Bool) (r : ℕ) (f : Filling) : Type 0 where
  pub at : ℕ
  pub list : InList f at
  pub before : FrozeToIn froze r f at
  pub not : froze r (node_of f at) ≡ false
  pub gone : PassedIn update stamp f at

abbrev pub Lost : View → Ghost → ℕ → Filling → Type 0
Lost X G = LostIn X.update G.stamp G.froze

-- in progress: ⊥ or TRY
abbrev pub Live : View → ℕ → Type 0
Live X r = X.state r < committed

-- a word names the dummy or a filled record
abbrev pub KnownIn : ℕ → (ℕ → Filling) → Update → Type 0
KnownIn records filling u = (u.info.0 ≡ 0) ⊎ FilledIn records filling u.info.0

abbrev pub KnownWord : View → Update → Type 0
KnownWord X = KnownIn X.records X.filling

-- a word u was read from node v: it stands there, or a later one does
pub record SeenIn (nodes records : ℕ) (filling : ℕ → Filling) (update : ℕ → Update) (stamp : ℕ → ℕ) (froze : ℕ → ℕ → Bool) (v : ℕ) (u : Update) : Type 0 where
  pub used : v < nodes
  pub known : KnownIn records filling u
  pub since : (update v ≡ u) ⊎ (stamp u.info.0 < stamp (update v).info.0)
  pub mine : u.info.0 ≢ 0 → froze u.info.0 v ≡ true

abbrev pub Seen : View → Ghost → ℕ → Update → Type 0
Seen X G = SeenIn X.nodes X.records X.filling X.update G.stamp G.froze

-- a word whose record is final
abbrev pub Final : View → Update → Type 0
Final X u = committed ≤ X.state u.info.0
