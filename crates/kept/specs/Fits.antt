-- What an effect needs so that the tables stay sound.
use Rattle.std.specs.Prelude.{ℕ, ◌+◌, ◌≤◌, ◌<◌, ◌≡◌, true}
use Rattle.shapes.specs.Numbers.{last_phase}
use Rattle.shapes.specs.declared.NodeNo.{NodeNo}
use Rattle.shapes.specs.declared.RecordNo.{RecordNo}
use Rattle.shapes.specs.declared.Phase.{Phase}
use Rattle.shapes.specs.declared.Filling.{Filling}
use Rattle.shapes.specs.declared.Effect.{Effect}
use Rattle.shapes.specs.declared.Effect.TheVariants as effect
use Rattle.tables.specs.Nodes.{is_internal}
use Rattle.tables.specs.Records.{undecided, aborted, count_at}
use Rattle.tables.specs.World.{Tables}
use Rattle.sound.specs.Meaning.{WordSound, RecordSound}

-- a node that is used and internal
pub record Parent (s : Tables) (x : NodeNo) : Type 0 where
  pub used : x.0 < s.totals.nodes
  pub internal : is_internal s.nodes x ≡ true

pub record Room (s : Tables) (k : ℕ) (q : Phase) : Type 0 where
  pub nodes : s.totals.nodes + k ≤ s.totals.n
  pub records : s.totals.records + 1 ≤ s.totals.m
  pub phase : q.0 ≤ s.totals.counter

pub record Fillable (s : Tables) (r : RecordNo) (f : Filling) : Type 0 where
  pub filled : RecordSound s.totals s.nodes f undecided
  pub other : 0 < r.0
  pub used : r.0 < s.totals.records
  pub empty : count_at s.records r ≡ 0

abbrev pub Fits : Effect → Tables → Type 0
Fits effect.Nothing s = Unit {0}
Fits effect.Bump s = s.totals.counter < last_phase
Fits (effect.TakeThree k l q) s = Room s 3 q × (l.0 < s.totals.nodes)
Fits (effect.TakeCopy sibling p q) s = Room s 1 q × (sibling.0 < s.totals.nodes) × (p.0 < s.totals.nodes)
Fits (effect.CopyChild x left c) s = Parent s x × (c.0 < s.totals.nodes)
Fits (effect.Fill r f) s = Fillable s r f
Fits (effect.Freeze x u) s = (x.0 < s.totals.nodes) × WordSound s.totals u
Fits (effect.SetState r v) s = (0 < r.0) × (r.0 < s.totals.records) × (v ≤ aborted)
Fits (effect.Link x left c) s = Parent s x × (c.0 < s.totals.nodes)
