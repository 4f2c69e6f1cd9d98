-- Which places belong to which operation, and which of them stand in a list.
use Rattle.std.specs.Prelude.{ℕ, Bool, true, false}
use Rattle.shapes.specs.declared.Kind.{Kind}
use Rattle.shapes.specs.declared.Kind.TheVariants as kind
use Rattle.shapes.specs.declared.Link.{Link}
use Rattle.shapes.specs.declared.Link.TheVariants.{Leaf64, Parent65, Sibling183, Left187, Right188}
use Rattle.shapes.specs.declared.HelpStep.{HelpStep}
use Rattle.shapes.specs.declared.HelpStep.TheVariants.{Counter111, Abort112, Try113, State114, Freeze117, Frozen119, Child123, Commit124, State125, Abort126, State127}
use Rattle.shapes.specs.declared.Back.{Back}
use Rattle.shapes.specs.declared.Back.TheVariants.{Own, Again, Node}
use Rattle.shapes.specs.declared.Place.{Place}
use Rattle.shapes.specs.declared.Place.TheVariants as place

unfoldable pub is_insert : Kind → Bool
is_insert kind.Insert = true
is_insert kind.Delete = false
is_insert kind.Find = false

unfoldable pub is_delete : Kind → Bool
is_delete kind.Insert = false
is_delete kind.Delete = true
is_delete kind.Find = false

-- an insert or a delete
unfoldable pub is_update : Kind → Bool
is_update kind.Insert = true
is_update kind.Delete = true
is_update kind.Find = false

-- how many nodes the operation's record lists (lines 164 and 190)
unfoldable pub listed : Kind → ℕ
listed kind.Insert = 2
listed kind.Delete = 4
listed kind.Find = 0

unfoldable pub link_home : Kind → Link → Bool
link_home o Leaf64 = true
link_home o Parent65 = true
link_home o Sibling183 = is_delete o
link_home o Left187 = is_delete o
link_home o Right188 = is_delete o

unfoldable pub back_home : Kind → Back → Bool
back_home o Own = is_update o
back_home o Again = true
back_home o Node = false

-- the places of an insert, a delete or a find
unfoldable pub attempt_home : Kind → Place → Bool
attempt_home o place.Counter74 = true
attempt_home o place.Search39 = true
attempt_home o (place.Link a s) = link_home o a
attempt_home o place.Word66 = true
attempt_home o place.Grand66 = true
attempt_home o place.Leaf164 = is_insert o
attempt_home o place.Sibling182 = is_delete o
attempt_home o place.CopyLeft = is_delete o
attempt_home o place.CopyRight = is_delete o
attempt_home o place.Word189 = is_delete o
attempt_home o place.Leaf190 = is_delete o
attempt_home o place.Frozen97 = is_update o
attempt_home o place.State98 = is_update o
attempt_home o place.Freeze103 = is_update o
attempt_home o (place.Help s b) = back_home o b
attempt_home o place.Counter130 = false
attempt_home o place.Bump131 = false
attempt_home o place.Word139 = false
attempt_home o place.State140 = false
attempt_home o place.Child141 = false
attempt_home o place.Left144 = false

unfoldable pub is_node : Back → Bool
is_node Own = false
is_node Again = false
is_node Node = true

-- the places of a scan
unfoldable pub scan_home : Place → Bool
scan_home place.Counter74 = false
scan_home place.Search39 = false
scan_home (place.Link a s) = false
scan_home place.Word66 = false
scan_home place.Grand66 = false
scan_home place.Leaf164 = false
scan_home place.Sibling182 = false
scan_home place.CopyLeft = false
scan_home place.CopyRight = false
scan_home place.Word189 = false
scan_home place.Leaf190 = false
scan_home place.Frozen97 = false
scan_home place.State98 = false
scan_home place.Freeze103 = false
scan_home (place.Help s b) = is_node b
scan_home place.Counter130 = true
scan_home place.Bump131 = true
scan_home place.Word139 = true
scan_home place.State140 = true
scan_home place.Child141 = true
scan_home place.Left144 = true

-- the steps of HELP at a place in the record's list
unfoldable pub in_list : HelpStep → Bool
in_list Counter111 = false
in_list Abort112 = false
in_list Try113 = false
in_list State114 = false
in_list Freeze117 = true
in_list Frozen119 = true
in_list Child123 = false
in_list Commit124 = false
in_list State125 = false
in_list Abort126 = false
in_list State127 = false
