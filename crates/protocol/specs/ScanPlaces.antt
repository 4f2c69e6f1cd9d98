-- What a scan knows at each of its places, with the turns that it may have taken by then: 16 for each internal node visited, of which one is kept back while the node is pending.
use Rattle.std.specs.Prelude.{ℕ, ◌+◌, ◌*◌, ◌-◌, ◌≤◌, ◌<◌, ◌≡◌, List, [], true, false, length}
use Rattle.shapes.specs.declared.Locals.{Locals}
use Rattle.shapes.specs.declared.HelpStep.{HelpStep}
use Rattle.shapes.specs.declared.HelpStep.TheVariants.{Counter111, Abort112, Try113, State114, Freeze117, Frozen119, Child123, Commit124, State125, Abort126, State127}
use Rattle.shapes.specs.declared.Back.TheVariants.{Own, Again, Node}
use Rattle.shapes.specs.declared.Place.{Place}
use Rattle.shapes.specs.declared.Place.TheVariants as place
use Rattle.tables.specs.Names.{update}
use Rattle.trees.specs.Scanning.{Stand, at, between}
use Rattle.views.specs.View.{View}
use Rattle.protocol.specs.Ghost.{Ghost, Seen}
use Rattle.protocol.specs.Helper.{Helps}
use Rattle.protocol.specs.Trees.{leaf_of}
use Rattle.protocol.specs.Walks.{Walks}

-- the most turns that HELP has left at a step, at place i of a list of at most four
unfoldable pub help_left : HelpStep → ℕ → ℕ
help_left Counter111 i = 12
help_left Abort112 i = 11
help_left Try113 i = 11
help_left State114 i = 10
help_left Freeze117 i = (4 - i) * 2 + 5
help_left Frozen119 i = (4 - i) * 2 + 4
help_left Child123 i = 3
help_left Commit124 i = 2
help_left State125 i = 3
help_left Abort126 i = 2
help_left State127 i = 1

-- a walk of phase i, us pending; T turns are paid by the nodes visited, but for so many more
pub record OnWalk (X : View) (G : Ghost) (i : ℕ) (stand : Stand) (us : List ℕ) (found T more : ℕ) : Type 0 where
  pub visited : List ℕ
  pub leaves : List ℕ
  pub walks : Walks X G i true stand us visited leaves
  pub keys : found ≤ length leaves
  pub turns : T + length us ≤ 2 + 16 * length visited + more

-- it stands at an internal node
pub record AtNode (X : View) (G : Ghost) (i p : ℕ) (us : List ℕ) (found T more : ℕ) : Type 0 where
  pub on : OnWalk X G i (at p) us found T more
  pub inner : leaf_of (X.fixed p) ≡ false

-- it has begun, and been nowhere
pub record Begun (us : List ℕ) (found T turns : ℕ) : Type 0 where
  pub none_pending : us ≡ []
  pub none_found : found ≡ 0
  pub taken : T ≤ turns

-- us are the pending nodes, last pushed first; so many keys are found, and T turns of the scan were accepted
abbrev pub ScanKnows : View → Ghost → Locals → List ℕ → ℕ → ℕ → Place → Type 0
ScanKnows X G v us found T place.Counter74 = ⊥
ScanKnows X G v us found T place.Search39 = ⊥
ScanKnows X G v us found T (place.Link a b) = ⊥
ScanKnows X G v us found T place.Word66 = ⊥
ScanKnows X G v us found T place.Grand66 = ⊥
ScanKnows X G v us found T place.Leaf164 = ⊥
ScanKnows X G v us found T place.Sibling182 = ⊥
ScanKnows X G v us found T place.CopyLeft = ⊥
ScanKnows X G v us found T place.CopyRight = ⊥
ScanKnows X G v us found T place.Word189 = ⊥
ScanKnows X G v us found T place.Leaf190 = ⊥
ScanKnows X G v us found T place.Frozen97 = ⊥
ScanKnows X G v us found T place.State98 = ⊥
ScanKnows X G v us found T place.Freeze103 = ⊥
ScanKnows X G v us found T (place.Help b Own) = ⊥
ScanKnows X G v us found T (place.Help b Again) = ⊥
ScanKnows X G v us found T (place.Help b Node) = AtNode X G v.seq.0 v.p.0 us found (T + help_left b v.i) 14 × Helps X G v.info.0 v.i b
ScanKnows X G v us found T place.Counter130 = Begun us found T 0
ScanKnows X G v us found T place.Bump131 = Begun us found T 1
ScanKnows X G v us found T place.Word139 = AtNode X G v.seq.0 v.p.0 us found T 0
ScanKnows X G v us found T place.State140 = AtNode X G v.seq.0 v.p.0 us found T 1 × ((m : ℕ) × Seen X G v.p.0 (update m v.info))
ScanKnows X G v us found T place.Child141 = AtNode X G v.seq.0 v.p.0 us found T 14
ScanKnows X G v us found T place.Left144 = OnWalk X G v.seq.0 between us found T 0 × (0 < length us)

-- what is to be shown where a scan may be: at its seven places, and nothing at the others
pub by_place : (X : View) (G : Ghost) (v : Locals) (us : List ℕ) (found T : ℕ) (Q : Place → Type 0)
    → ((b : HelpStep) → ScanKnows X G v us found T (place.Help b Node) → Q (place.Help b Node))
    → (ScanKnows X G v us found T place.Counter130 → Q place.Counter130)
    → (ScanKnows X G v us found T place.Bump131 → Q place.Bump131)
    → (ScanKnows X G v us found T place.Word139 → Q place.Word139)
    → (ScanKnows X G v us found T place.State140 → Q place.State140)
    → (ScanKnows X G v us found T place.Child141 → Q place.Child141)
    → (ScanKnows X G v us found T place.Left144 → Q place.Left144)
    → (q : Place) → ScanKnows X G v us found T q → Q q
by_place X G v us found T Q help c130 b131 w139 s140 c141 l144 place.Counter74 k = absurd k
by_place X G v us found T Q help c130 b131 w139 s140 c141 l144 place.Search39 k = absurd k
by_place X G v us found T Q help c130 b131 w139 s140 c141 l144 (place.Link a b) k = absurd k
by_place X G v us found T Q help c130 b131 w139 s140 c141 l144 place.Word66 k = absurd k
by_place X G v us found T Q help c130 b131 w139 s140 c141 l144 place.Grand66 k = absurd k
by_place X G v us found T Q help c130 b131 w139 s140 c141 l144 place.Leaf164 k = absurd k
by_place X G v us found T Q help c130 b131 w139 s140 c141 l144 place.Sibling182 k = absurd k
by_place X G v us found T Q help c130 b131 w139 s140 c141 l144 place.CopyLeft k = absurd k
by_place X G v us found T Q help c130 b131 w139 s140 c141 l144 place.CopyRight k = absurd k
by_place X G v us found T Q help c130 b131 w139 s140 c141 l144 place.Word189 k = absurd k
by_place X G v us found T Q help c130 b131 w139 s140 c141 l144 place.Leaf190 k = absurd k
by_place X G v us found T Q help c130 b131 w139 s140 c141 l144 place.Frozen97 k = absurd k
by_place X G v us found T Q help c130 b131 w139 s140 c141 l144 place.State98 k = absurd k
by_place X G v us found T Q help c130 b131 w139 s140 c141 l144 place.Freeze103 k = absurd k
by_place X G v us found T Q help c130 b131 w139 s140 c141 l144 (place.Help b Own) k = absurd k
by_place X G v us found T Q help c130 b131 w139 s140 c141 l144 (place.Help b Again) k = absurd k
by_place X G v us found T Q help c130 b131 w139 s140 c141 l144 (place.Help b Node) k = help b k
by_place X G v us found T Q help c130 b131 w139 s140 c141 l144 place.Counter130 k = c130 k
by_place X G v us found T Q help c130 b131 w139 s140 c141 l144 place.Bump131 k = b131 k
by_place X G v us found T Q help c130 b131 w139 s140 c141 l144 place.Word139 k = w139 k
by_place X G v us found T Q help c130 b131 w139 s140 c141 l144 place.State140 k = s140 k
by_place X G v us found T Q help c130 b131 w139 s140 c141 l144 place.Child141 k = c141 k
by_place X G v us found T Q help c130 b131 w139 s140 c141 l144 place.Left144 k = l144 k
