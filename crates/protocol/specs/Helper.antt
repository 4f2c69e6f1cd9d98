-- What a worker inside HELP of record r knows at each step, and that the others keep it.
use Rattle.std.specs.Prelude.{ℕ, ◌≤◌, ◌≡◌, ◌⊎◌, true}
use Rattle.std.proofs.Common.{inl, inr}
use Rattle.shapes.specs.declared.HelpStep.{HelpStep}
use Rattle.shapes.specs.declared.HelpStep.TheVariants.{Counter111, Abort112, Try113, State114, Freeze117, Frozen119, Child123, Commit124, State125, Abort126, State127}
use Rattle.tables.specs.Records.{trying, committed}
use Rattle.views.specs.View.{View}
use Rattle.protocol.specs.Ghost.{Ghost, node_of, Filled, InList, Past, Passed, FrozeTo, FrozeAll, Lost}
use Rattle.protocol.specs.Rely.{Rely}

-- the record is filled, and its first node is frozen: it has been seen
pub record Shown (X : View) (G : Ghost) (r : ℕ) : Type 0 where
  pub filled : Filled X r
  pub first : G.froze r (node_of (X.filling r) 1) ≡ true

-- at place i of the list, with what is before it frozen
pub record AtPlace (X : View) (G : Ghost) (r i : ℕ) : Type 0 where
  pub tried : G.tried r ≡ true
  pub list : InList (X.filling r) i
  pub before : FrozeTo G r (X.filling r) i

pub record AllFrozen (X : View) (G : Ghost) (r : ℕ) : Type 0 where
  pub tried : G.tried r ≡ true
  pub all : FrozeAll G r (X.filling r)

pub record TriedLost (X : View) (G : Ghost) (r : ℕ) : Type 0 where
  pub tried : G.tried r ≡ true
  pub lost : Lost X G r (X.filling r)

abbrev pub At : View → Ghost → ℕ → ℕ → HelpStep → Type 0
At X G r i Counter111 = Unit {0}
At X G r i Abort112 = Unit {0}
At X G r i Try113 = Unit {0}
At X G r i State114 = trying ≤ X.state r
At X G r i Freeze117 = AtPlace X G r i
At X G r i Frozen119 = AtPlace X G r i × ((G.froze r (node_of (X.filling r) i) ≡ true) ⊎ Passed X G (X.filling r) i)
At X G r i Child123 = AllFrozen X G r
At X G r i Commit124 = AllFrozen X G r × Past X (X.filling r)
At X G r i State125 = (committed ≤ X.state r) ⊎ TriedLost X G r
At X G r i Abort126 = TriedLost X G r
At X G r i State127 = committed ≤ X.state r

pub record Helps (X : View) (G : Ghost) (r i : ℕ) (b : HelpStep) : Type 0 where
  pub shown : Shown X G r
  pub at : At X G r i b

-- ---- kept by the others

module _ (w : ℕ) (X X' : View) (G G' : Ghost) (L : Rely w X X' G G') (r : ℕ) (s : Shown X G r) where
  same : X'.filling r ≡ X.filling r
  same = L.filling r s.filled

  pub shown_kept : Shown X' G' r
  shown_kept = record { filled = L.filled r s.filled; first = rw same (L.froze r _ s.first) }

  place_kept : (i : ℕ) → AtPlace X G r i → AtPlace X' G' r i
  place_kept i h = record { tried = L.tried r h.tried; list = rw same h.list; before = rw same (λ j a b. L.froze r _ (h.before j a b)) }

  all_kept : AllFrozen X G r → AllFrozen X' G' r
  all_kept h = record { tried = L.tried r h.tried; all = rw same (λ j l. L.froze r _ (h.all j l)) }

  lost_kept : TriedLost X G r → TriedLost X' G' r
  lost_kept h = record { tried = L.tried r h.tried; lost = rw same (L.lost r s.filled h.lost) }

  final_kept : committed ≤ X.state r → committed ≤ X'.state r
  final_kept h = L.final (record { mark = 0; info = record { 0 = r } }) (inr s.filled) h

  at_kept : (i : ℕ) (b : HelpStep) → At X G r i b → At X' G' r i b
  at_kept i Counter111 h = h
  at_kept i Abort112 h = h
  at_kept i Try113 h = h
  at_kept i State114 h = L.begun r s.filled h
  at_kept i Freeze117 h = place_kept i h
  at_kept i Frozen119 h = (place_kept i h.0, elim h.1 [ inl e ↦ inl (rw same (L.froze r _ e)) | inr p ↦ inr (rw same (L.passed r i s.filled h.0.list p)) ])
  at_kept i Child123 h = all_kept h
  at_kept i Commit124 h = (all_kept h.0, rw same (L.past r s.filled h.1))
  at_kept i State125 h = elim h [ inl e ↦ inl (final_kept e) | inr p ↦ inr (lost_kept p) ]
  at_kept i Abort126 h = lost_kept h
  at_kept i State127 h = final_kept h

pub helps_kept : (w : ℕ) (X X' : View) (G G' : Ghost) → Rely w X X' G G' → (r i : ℕ) (b : HelpStep) → Helps X G r i b → Helps X' G' r i b
helps_kept w X X' G G' L r i b h = record { shown = shown_kept w X X' G G' L r h.shown; at = at_kept w X X' G G' L r h.shown i b h.at }
