-- What a turn decides, by its place.
use Rattle.std.specs.Prelude.{true, false, None}
use Rattle.shapes.specs.declared.Key.{Key}
use Rattle.shapes.specs.declared.Locals.{Locals}
use Rattle.shapes.specs.declared.Kind.{Kind}
use Rattle.shapes.specs.declared.Kind.TheVariants as kind
use Rattle.shapes.specs.declared.Place.{Place}
use Rattle.shapes.specs.declared.Place.TheVariants as place
use Rattle.shapes.specs.declared.Operation.{Operation}
use Rattle.shapes.specs.declared.Operation.TheVariants.{Insert, Delete, Find, Scan}
use Rattle.shapes.specs.Outcomes.{Decision}
use Rattle.tables.specs.Names.{phase}
use Rattle.tables.specs.World.{Tables}
use Rattle.steps.specs.Hand.{at_root, goes}
use Rattle.steps.specs.Search.{search39}
use Rattle.steps.specs.Attempt.{link_step, word66, grand66, sibling182, copy_word, word189, leaf_word}
use Rattle.steps.specs.Execute.{frozen97, state98, freeze103}
use Rattle.steps.specs.Help.{help_of, help_next}
use Rattle.steps.specs.Scan.{Lists, bump131, word139, state140, child141, left144}

-- an insert, a delete or a find; sound tables have none at a scan's place
unfoldable pub attempt : Tables → Kind → Key → Locals → Place → Decision
attempt s o k v place.Counter74 = goes (at_root (phase s.totals.counter)) place.Search39
attempt s o k v place.Search39 = search39 s.totals s.nodes k v
attempt s o k v (place.Link a b) = link_step s k v a b
attempt s o k v place.Word66 = word66 s.totals s.nodes o k v
attempt s o k v place.Grand66 = grand66 s.totals s.nodes o k v
attempt s o k v place.Leaf164 = leaf_word s.nodes v
attempt s o k v place.Sibling182 = sibling182 s.totals s.nodes v
attempt s o k v place.CopyLeft = copy_word s.nodes v true
attempt s o k v place.CopyRight = copy_word s.nodes v false
attempt s o k v place.Word189 = word189 s.nodes v
attempt s o k v place.Leaf190 = leaf_word s.nodes v
attempt s o k v place.Frozen97 = frozen97 s.nodes s.records o v
attempt s o k v place.State98 = state98 s.records o v
attempt s o k v place.Freeze103 = freeze103 s.nodes s.records v
attempt s o k v (place.Help b c) = help_next c v (help_of s v.info v.i b)
attempt s o k v place.Counter130 = None
attempt s o k v place.Bump131 = None
attempt s o k v place.Word139 = None
attempt s o k v place.State140 = None
attempt s o k v place.Child141 = None
attempt s o k v place.Left144 = None

-- a scan; sound tables have none at an attempt's place
unfoldable pub scan : Tables → Lists → Key → Key → Locals → Place → Decision
scan s ls a b v place.Counter74 = None
scan s ls a b v place.Search39 = None
scan s ls a b v (place.Link c d) = None
scan s ls a b v place.Word66 = None
scan s ls a b v place.Grand66 = None
scan s ls a b v place.Leaf164 = None
scan s ls a b v place.Sibling182 = None
scan s ls a b v place.CopyLeft = None
scan s ls a b v place.CopyRight = None
scan s ls a b v place.Word189 = None
scan s ls a b v place.Leaf190 = None
scan s ls a b v place.Frozen97 = None
scan s ls a b v place.State98 = None
scan s ls a b v place.Freeze103 = None
scan s ls a b v (place.Help c d) = help_next d v (help_of s v.info v.i c)
scan s ls a b v place.Counter130 = goes (at_root (phase s.totals.counter)) place.Bump131
scan s ls a b v place.Bump131 = bump131 s.totals v
scan s ls a b v place.Word139 = word139 s.nodes v
scan s ls a b v place.State140 = state140 s.records v
scan s ls a b v place.Child141 = child141 s.totals s.nodes (record { low = a; high = b; seq = v.seq }) ls v
scan s ls a b v place.Left144 = left144 s.totals s.nodes (record { low = a; high = b; seq = v.seq }) ls

unfoldable pub decide : Tables → Lists → Operation → Locals → Decision
decide s ls (Insert k q) v = attempt s kind.Insert k v q
decide s ls (Delete k q) v = attempt s kind.Delete k v q
decide s ls (Find k q) v = attempt s kind.Find k v q
decide s ls (Scan a b q) v = scan s ls a b v q
