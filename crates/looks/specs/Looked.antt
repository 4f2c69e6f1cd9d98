-- The one changeable word that the next turn looks at (01: one turn does one read, CAS, write or increment of a changeable word).
-- No changeable word tells which: only the hand, the keys and what a record lists (SameLook.same-look).
use Rattle.std.specs.Prelude.{ℕ, List, Bool, true, false, ltb, Option, None, Some}
use Rattle.laws.specs.Choice.{pick}
use Rattle.shapes.specs.declared.NodeNo.{NodeNo}
use Rattle.shapes.specs.declared.RecordNo.{RecordNo}
use Rattle.shapes.specs.declared.Key.{Key}
use Rattle.shapes.specs.declared.Locals.{Locals}
use Rattle.shapes.specs.declared.Kind.{Kind}
use Rattle.shapes.specs.declared.Kind.TheVariants as kind
use Rattle.shapes.specs.declared.Link.{Link}
use Rattle.shapes.specs.declared.LinkStep.{LinkStep}
use Rattle.shapes.specs.declared.LinkStep.TheVariants.{Word52, State53, Child57}
use Rattle.shapes.specs.declared.HelpStep.{HelpStep}
use Rattle.shapes.specs.declared.HelpStep.TheVariants.{Counter111, Abort112, Try113, State114, Freeze117, Frozen119, Child123, Commit124, State125, Abort126, State127}
use Rattle.shapes.specs.declared.Place.{Place}
use Rattle.shapes.specs.declared.Place.TheVariants as place
use Rattle.shapes.specs.declared.Operation.{Operation}
use Rattle.shapes.specs.declared.Operation.TheVariants.{Insert, Delete, Find, Scan}
use Rattle.tables.specs.Nodes.{key_at}
use Rattle.tables.specs.Records.{par_at, new_child_at, entry_at}
use Rattle.tables.specs.World.{Tables}
use Rattle.steps.specs.Search.{goes_left}
use Rattle.steps.specs.Validate.{link_parent, sibling_left, link_left}
use Rattle.steps.specs.Execute.{old_update}
use Rattle.steps.specs.Help.{cas_left}
use Rattle.steps.specs.Scan.{Lists}
use Rattle.kept.specs.Touched.{Changeable, counter, child, word, state, none}

-- of a node that may be absent: then the turn is crooked, and looks at nothing
unfoldable pub word_of : Option NodeNo → Changeable
word_of None = none
word_of (Some x) = word x

unfoldable pub child_of : Option NodeNo → Bool → Changeable
child_of None left = none
child_of (Some x) left = child x left

-- VALIDATELINK; line 57 compares the child word
unfoldable pub link_looks : Tables → Key → Locals → Link → LinkStep → Changeable
link_looks s k v a Word52 = word_of (link_parent v a)
link_looks s k v a State53 = state v.up.info
link_looks s k v a Child57 = child_of (link_parent v a) (link_left s.nodes k v a)

-- HELP; lines 112, 113, 117, 118 and 123 are a CAS, lines 124 and 126 only write
unfoldable pub help_looks : Tables → RecordNo → ℕ → HelpStep → Changeable
help_looks s r i Counter111 = counter
help_looks s r i Abort112 = state r
help_looks s r i Try113 = state r
help_looks s r i State114 = state r
help_looks s r i Freeze117 = word (entry_at s.records r i).node
help_looks s r i Frozen119 = word (entry_at s.records r i).node
help_looks s r i Child123 = child (par_at s.records r) (cas_left s.nodes (par_at s.records r) (new_child_at s.records r))
help_looks s r i Commit124 = state r
help_looks s r i State125 = state r
help_looks s r i Abort126 = state r
help_looks s r i State127 = state r

-- lines 141 to 143: left alone where the key is above b; else right, alone or with left to follow
unfoldable pub scans_left : List ℕ → Key → Key → NodeNo → Bool
scans_left ns a b x = pick (ltb (key_at ns x) a.0) false (ltb b.0 (key_at ns x))

-- the place tells the word: attempts and scans share only HELP's, so one list serves all; a and b are both the key of an attempt
unfoldable pub place_looks : Tables → Lists → Kind → Key → Key → Locals → Place → Changeable
place_looks s ls o a b v place.Counter74 = counter
place_looks s ls o a b v place.Search39 = child v.p (goes_left s.nodes a v.p)
place_looks s ls o a b v (place.Link c d) = link_looks s a v c d
place_looks s ls o a b v place.Word66 = word v.p
place_looks s ls o a b v place.Grand66 = word_of v.gp
place_looks s ls o a b v place.Leaf164 = word v.l
place_looks s ls o a b v place.Sibling182 = child v.p (sibling_left s.nodes v)
-- line 185
place_looks s ls o a b v place.CopyLeft = child v.sibling true
place_looks s ls o a b v place.CopyRight = child v.sibling false
place_looks s ls o a b v place.Word189 = word v.sibling
place_looks s ls o a b v place.Leaf190 = word v.l
place_looks s ls o a b v place.Frozen97 = state (old_update o v v.i).info
place_looks s ls o a b v place.State98 = state (old_update o v v.i).info
place_looks s ls o a b v place.Freeze103 = word (entry_at s.records v.info 1).node
place_looks s ls o a b v (place.Help c d) = help_looks s v.info v.i c
place_looks s ls o a b v place.Counter130 = counter
place_looks s ls o a b v place.Bump131 = counter
place_looks s ls o a b v place.Word139 = word v.p
place_looks s ls o a b v place.State140 = state v.info
place_looks s ls o a b v place.Child141 = child v.p (scans_left s.nodes a b v.p)
place_looks s ls o a b v place.Left144 = child ls.top true

-- a scan has no old words, so its kind is any
unfoldable pub looked_at : Tables → Lists → Operation → Locals → Changeable
looked_at s ls (Insert k q) v = place_looks s ls kind.Insert k k v q
looked_at s ls (Delete k q) v = place_looks s ls kind.Delete k k v q
looked_at s ls (Find k q) v = place_looks s ls kind.Find k k v q
looked_at s ls (Scan a b q) v = place_looks s ls kind.Find a b v q
