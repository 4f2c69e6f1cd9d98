-- VALIDATELINK (lines 49 to 59), once for its five calls.
use Rattle.std.specs.Prelude.{ℕ, List, Bool, true, false, leb, Option, None, Some}
use Rattle.laws.specs.Choice.{pick}
use Rattle.shapes.specs.declared.Key.{Key}
use Rattle.shapes.specs.declared.Update.{Update}
use Rattle.shapes.specs.declared.Locals.{Locals}
use Rattle.shapes.specs.declared.Link.{Link}
use Rattle.shapes.specs.declared.Link.TheVariants.{Leaf64, Parent65, Sibling183, Left187, Right188}
use Rattle.shapes.specs.declared.LinkStep.{LinkStep}
use Rattle.shapes.specs.declared.LinkStep.TheVariants.{Word52, State53, Child57}
use Rattle.shapes.specs.declared.LinkMove.{LinkMove}
use Rattle.shapes.specs.declared.LinkMove.TheVariants as link
use Rattle.shapes.specs.declared.NodeNo.{NodeNo}
use Rattle.tables.specs.Names.{same_node}
use Rattle.tables.specs.Nodes.{key_at, child_at, update_at}
use Rattle.tables.specs.Versions.{as_parent}
use Rattle.steps.specs.Search.{goes_left}
use Rattle.steps.specs.Execute.{frozen}

-- line 52
unfoldable pub word52 : List ℕ → Option NodeNo → Option LinkMove
word52 ns None = None
word52 ns (Some parent) = Some (link.Goes State53 (update_at ns parent))

-- lines 53 and 54
unfoldable pub state53 : List ℕ → Update → Option LinkMove
state53 rs up = pick (frozen rs up) (Some (link.Helps up.info)) (Some (link.Goes Child57 up))

-- lines 57 and 58: the child word, without a walk
unfoldable pub child57 : List ℕ → Option NodeNo → Option NodeNo → Bool → Option LinkMove
child57 ns None child left = None
child57 ns (Some parent) None left = None
child57 ns (Some parent) (Some child) left = pick (same_node (child_at ns parent left) child) (Some link.Holds) (Some link.Fails)

-- a turn inside VALIDATELINK (lines 51 to 60)
unfoldable pub link_of : List ℕ → List ℕ → Option NodeNo → Option NodeNo → Bool → Update → LinkStep → Option LinkMove
link_of ns rs parent child left up Word52 = word52 ns parent
link_of ns rs parent child left up State53 = state53 rs up
link_of ns rs parent child left up Child57 = child57 ns parent child left

-- ---- the arguments of the five calls: lines 64, 65, 183, 187, 188

-- parent
unfoldable pub link_parent : Locals → Link → Option NodeNo
link_parent v Leaf64 = Some v.p
link_parent v Parent65 = v.gp
link_parent v Sibling183 = Some v.p
link_parent v Left187 = Some v.sibling
link_parent v Right188 = Some v.sibling

-- the child of a copy as it stands in the table: until line 123 links it the copy is its maker's own, so this is no read of a shared word
unfoldable pub copy_child : List ℕ → Option NodeNo → Bool → Option NodeNo
copy_child ns None left = None
copy_child ns (Some copy) left = Some (child_at ns copy left)

-- child
unfoldable pub link_child : List ℕ → Locals → Link → Option NodeNo
link_child ns v Leaf64 = Some v.l
link_child ns v Parent65 = Some v.p
link_child ns v Sibling183 = Some v.sibling
link_child ns v Left187 = copy_child ns (as_parent ns (Some v.made)) true
link_child ns v Right188 = copy_child ns (as_parent ns (Some v.made)) false

-- l's key ≥ p's key (lines 182 and 183): the sibling stands on the left
unfoldable pub sibling_left : List ℕ → Locals → Bool
sibling_left ns v = leb (key_at ns v.p) (key_at ns v.l)

-- k less than the key of a parent that is there
unfoldable pub parent_left : List ℕ → Key → Option NodeNo → Bool
parent_left ns k None = false
parent_left ns k (Some x) = goes_left ns k x

-- left
unfoldable pub link_left : List ℕ → Key → Locals → Link → Bool
link_left ns k v Leaf64 = goes_left ns k v.p
link_left ns k v Parent65 = parent_left ns k v.gp
link_left ns k v Sibling183 = sibling_left ns v
link_left ns k v Left187 = true
link_left ns k v Right188 = false
