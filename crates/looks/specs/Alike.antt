-- Two tables that differ in changeable words only, and the two things besides that a decision counts on.
use Rattle.std.specs.Prelude.{◌≤◌, ◌≡◌, Bool, true}
use Rattle.laws.specs.Choice.{pick}
use Rattle.shapes.specs.declared.NodeNo.{NodeNo}
use Rattle.shapes.specs.declared.RecordNo.{RecordNo}
use Rattle.shapes.specs.declared.Locals.{Locals}
use Rattle.shapes.specs.declared.Link.TheVariants.{Left187, Right188}
use Rattle.shapes.specs.declared.LinkStep.TheVariants.{Child57}
use Rattle.shapes.specs.declared.HelpStep.{HelpStep}
use Rattle.shapes.specs.declared.Back.{Back}
use Rattle.shapes.specs.declared.Place.{Place}
use Rattle.shapes.specs.declared.Place.TheVariants as place
use Rattle.shapes.specs.declared.Operation.{Operation}
use Rattle.shapes.specs.declared.Operation.TheVariants.{Insert, Delete, Find, Scan}
use Rattle.shapes.specs.declared.Effect.{Effect}
use Rattle.shapes.specs.declared.Effect.TheVariants as effect
use Rattle.tables.specs.Nodes.{child_at}
use Rattle.tables.specs.NodeWrites.{fixed_at}
use Rattle.tables.specs.RecordWrites.{filling_at}
use Rattle.tables.specs.World.{Tables}
use Rattle.sound.specs.Homes.{in_list}

-- the totals but for Counter, the nodes but for their children and update words, the records but for their states
pub record Alike (s t : Tables) : Type 0 where
  pub n : t.totals.n ≡ s.totals.n
  pub m : t.totals.m ≡ s.totals.m
  pub p : t.totals.p ≡ s.totals.p
  pub nodes : t.totals.nodes ≡ s.totals.nodes
  pub records : t.totals.records ≡ s.totals.records
  pub fixed : (x : NodeNo) → fixed_at t.nodes x ≡ fixed_at s.nodes x
  pub filling : (r : RecordNo) → filling_at t.records r ≡ filling_at s.records r

unfoldable pub place_of : Operation → Place
place_of (Insert k q) = q
place_of (Delete k q) = q
place_of (Find k q) = q
place_of (Scan a b q) = q

-- lines 187 and 188 compare with a child of the copy as it stands in the table; the copy is its maker's own until line 123 links it
abbrev pub OwnCopy : Tables → Tables → Locals → Place → Type 0
OwnCopy s t v q = (left : Bool) → q ≡ place.Link (pick left Left187 Right188) Child57 → child_at t.nodes v.made left ≡ child_at s.nodes v.made left

-- at lines 117 and 119 i is one of a record's four entries: beyond them stands the next record, with its state
abbrev pub InRow : Locals → Place → Type 0
InRow v q = (b : HelpStep) (c : Back) → q ≡ place.Help b c → in_list b ≡ true → (1 ≤ v.i) × (v.i ≤ 4)

-- an effect that writes a changeable word and nothing else: it takes no nodes and fills no record
abbrev pub Writes : Effect → Type 0
Writes effect.Nothing = Unit {0}
Writes effect.Bump = Unit {0}
Writes (effect.TakeThree k l q) = ⊥
Writes (effect.TakeCopy x p q) = ⊥
Writes (effect.CopyChild x left c) = Unit {0}
Writes (effect.Fill r f) = ⊥
Writes (effect.Freeze x u) = Unit {0}
Writes (effect.SetState r v) = Unit {0}
Writes (effect.Link x left c) = Unit {0}
