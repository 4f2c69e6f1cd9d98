-- SEARCH (lines 32 to 42).
use Rattle.std.specs.Prelude.{ℕ, List, Bool, ltb, Some}
use Rattle.laws.specs.Choice.{pick}
use Rattle.shapes.specs.declared.NodeNo.{NodeNo}
use Rattle.shapes.specs.declared.Key.{Key}
use Rattle.shapes.specs.declared.Totals.{Totals}
use Rattle.shapes.specs.declared.Locals.{Locals}
use Rattle.shapes.specs.declared.Link.TheVariants.{Leaf64}
use Rattle.shapes.specs.declared.LinkStep.TheVariants.{Word52}
use Rattle.shapes.specs.declared.Place.TheVariants as place
use Rattle.shapes.specs.Outcomes.{Decision}
use Rattle.tables.specs.Nodes.{is_internal, key_at}
use Rattle.tables.specs.Versions.{read_child, as_parent}
use Rattle.steps.specs.Hand.{down_to, with_leaf, goes, through}

-- k less than the node's key: the search goes left
unfoldable pub goes_left : List ℕ → Key → NodeNo → Bool
goes_left ns k x = ltb k.0 (key_at ns x)

-- line 36: on with an internal node, or out with a leaf, whose link is validated next
unfoldable pub landed : List ℕ → Locals → NodeNo → Decision
landed ns v c = pick (is_internal ns c) (goes (down_to v c) place.Search39) (goes (with_leaf v c) (place.Link Leaf64 Word52))

-- line 39: l := READCHILD(p, k < p's key, seq)
unfoldable pub search39 : Totals → List ℕ → Key → Locals → Decision
search39 t ns k v =
    through (as_parent ns (Some v.p)) (λ p.
    through (read_child t.nodes ns p (goes_left ns k p) v.seq) (landed ns v))
