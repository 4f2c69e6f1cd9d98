-- What is to be shown of every decision: of one that asks for a node first, and of a scan's, whatever its place.
use Rattle.std.specs.Prelude.{Option, None, Some}
use Rattle.shapes.specs.declared.NodeNo.{NodeNo}
use Rattle.shapes.specs.declared.Key.{Key}
use Rattle.shapes.specs.declared.Locals.{Locals}
use Rattle.shapes.specs.declared.HelpStep.{HelpStep}
use Rattle.shapes.specs.declared.Back.{Back}
use Rattle.shapes.specs.declared.Place.{Place}
use Rattle.shapes.specs.declared.Place.TheVariants as place
use Rattle.shapes.specs.Outcomes.{Decision}
use Rattle.tables.specs.World.{Tables}
use Rattle.steps.specs.Hand.{through}
use Rattle.steps.specs.Scan.{Lists}
use Rattle.steps.specs.Decide.{scan}

pub through_each : (P : Decision → Type 0) → P None → (m : Option NodeNo) (g : NodeNo → Decision) → ((x : NodeNo) → P (g x)) → P (through m g)
unfolding through
through_each P crooked None g h = crooked
through_each P crooked (Some x) g h = h x

-- at an attempt's place a scan is crooked, so there are seven to go through; of two tables at once, or of one twice
module _ (s t : Tables) (ls : Lists) (a b : Key) (v : Locals) (P : Place → Decision → Decision → Type 0) where
  abbrev Shown : Place → Type 0
  Shown q = P q (scan s ls a b v q) (scan t ls a b v q)

  pub scan-places : ((q : Place) → P q None None) → ((c : HelpStep) (d : Back) → Shown (place.Help c d)) → Shown place.Counter130 → Shown place.Bump131 → Shown place.Word139 → Shown place.State140 → Shown place.Child141 → Shown place.Left144 → (q : Place) → Shown q
  unfolding scan
  scan-places none help c130 b131 w139 s140 c141 l144 place.Counter74 = none place.Counter74
  scan-places none help c130 b131 w139 s140 c141 l144 place.Search39 = none place.Search39
  scan-places none help c130 b131 w139 s140 c141 l144 (place.Link c d) = none (place.Link c d)
  scan-places none help c130 b131 w139 s140 c141 l144 place.Word66 = none place.Word66
  scan-places none help c130 b131 w139 s140 c141 l144 place.Grand66 = none place.Grand66
  scan-places none help c130 b131 w139 s140 c141 l144 place.Leaf164 = none place.Leaf164
  scan-places none help c130 b131 w139 s140 c141 l144 place.Sibling182 = none place.Sibling182
  scan-places none help c130 b131 w139 s140 c141 l144 place.CopyLeft = none place.CopyLeft
  scan-places none help c130 b131 w139 s140 c141 l144 place.CopyRight = none place.CopyRight
  scan-places none help c130 b131 w139 s140 c141 l144 place.Word189 = none place.Word189
  scan-places none help c130 b131 w139 s140 c141 l144 place.Leaf190 = none place.Leaf190
  scan-places none help c130 b131 w139 s140 c141 l144 place.Frozen97 = none place.Frozen97
  scan-places none help c130 b131 w139 s140 c141 l144 place.State98 = none place.State98
  scan-places none help c130 b131 w139 s140 c141 l144 place.Freeze103 = none place.Freeze103
  scan-places none help c130 b131 w139 s140 c141 l144 (place.Help c d) = help c d
  scan-places none help c130 b131 w139 s140 c141 l144 place.Counter130 = c130
  scan-places none help c130 b131 w139 s140 c141 l144 place.Bump131 = b131
  scan-places none help c130 b131 w139 s140 c141 l144 place.Word139 = w139
  scan-places none help c130 b131 w139 s140 c141 l144 place.State140 = s140
  scan-places none help c130 b131 w139 s140 c141 l144 place.Child141 = c141
  scan-places none help c130 b131 w139 s140 c141 l144 place.Left144 = l144
