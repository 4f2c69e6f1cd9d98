-- Where a turn looks hangs on no changeable word: it is told by the hand, the keys and what a record lists.
use Rattle.std.specs.Prelude.{ℕ, ◌≤◌, ◌≡◌, true}
use Rattle.std.proofs.Math.Path.{refl}
use Rattle.std.proofs.Common.{arith}
use Rattle.shapes.specs.declared.RecordNo.{RecordNo}
use Rattle.shapes.specs.declared.Key.{Key}
use Rattle.shapes.specs.declared.Locals.{Locals}
use Rattle.shapes.specs.declared.Kind.{Kind}
use Rattle.shapes.specs.declared.Kind.TheVariants as kind
use Rattle.shapes.specs.declared.Link.{Link}
use Rattle.shapes.specs.declared.LinkStep.{LinkStep}
use Rattle.shapes.specs.declared.LinkStep.TheVariants.{Word52, State53, Child57}
use Rattle.shapes.specs.declared.HelpStep.{HelpStep}
use Rattle.shapes.specs.declared.HelpStep.TheVariants.{Counter111, Abort112, Try113, State114, Freeze117, Frozen119, Child123, Commit124, State125, Abort126, State127}
use Rattle.shapes.specs.declared.Place.{Place}
use Rattle.shapes.specs.declared.Place.TheVariants as place
use Rattle.shapes.specs.declared.Operation.{Operation}
use Rattle.shapes.specs.declared.Operation.TheVariants.{Insert, Delete, Find, Scan}
use Rattle.tables.specs.Records.{par_at, new_child_at}
use Rattle.tables.specs.World.{Tables}
use Rattle.sound.specs.Homes.{in_list}
use Rattle.steps.specs.Scan.{Lists}
use Rattle.looks.specs.Looked.{link_looks, help_looks, scans_left, place_looks, looked_at}
use Rattle.looks.specs.Alike.{Alike, place_of, InRow}
use Rattle.looks.specs.Common.{same_key, same_par, same_new, same_entry}
use Rattle.looks.proofs.ReadsAttempt.{same_goes, same_sibling}
use Rattle.looks.proofs.ReadsLink.{same_side}

module _ (s t : Tables) (a : Alike s t) (v : Locals) where
  link_look : (k : Key) (c : Link) (b : LinkStep) → link_looks t k v c b ≡ link_looks s k v c b
  unfolding link_looks
  link_look k c Word52 = refl
  link_look k c State53 = refl
  link_look k c Child57 = rw (same_side s t a v k c)

  help_look : (r : RecordNo) (i : ℕ) (b : HelpStep) → (in_list b ≡ true → (1 ≤ i) × (i ≤ 4)) → help_looks t r i b ≡ help_looks s r i b
  unfolding help_looks in_list
  help_look r i Counter111 l = refl
  help_look r i Abort112 l = refl
  help_look r i Try113 l = refl
  help_look r i State114 l = refl
  help_look r i Freeze117 l = rw (same_entry s t a r i (l refl).0 (l refl).1)
  help_look r i Frozen119 l = rw (same_entry s t a r i (l refl).0 (l refl).1)
  help_look r i Child123 l = rw (same_par s t a r, same_new s t a r, same_key s t a (par_at s.records r), same_key s t a (new_child_at s.records r))
  help_look r i Commit124 l = refl
  help_look r i State125 l = refl
  help_look r i Abort126 l = refl
  help_look r i State127 l = refl

  place_look : (ls : Lists) (o : Kind) (low high : Key) (q : Place) → InRow v q → place_looks t ls o low high v q ≡ place_looks s ls o low high v q
  unfolding place_looks scans_left
  place_look ls o low high place.Counter74 row = refl
  place_look ls o low high place.Search39 row = rw (same_goes s t a v low v.p)
  place_look ls o low high (place.Link c b) row = link_look low c b
  place_look ls o low high place.Word66 row = refl
  place_look ls o low high place.Grand66 row = refl
  place_look ls o low high place.Leaf164 row = refl
  place_look ls o low high place.Sibling182 row = rw (same_sibling s t a v)
  place_look ls o low high place.CopyLeft row = refl
  place_look ls o low high place.CopyRight row = refl
  place_look ls o low high place.Word189 row = refl
  place_look ls o low high place.Leaf190 row = refl
  place_look ls o low high place.Frozen97 row = refl
  place_look ls o low high place.State98 row = refl
  place_look ls o low high place.Freeze103 row = rw (same_entry s t a v.info 1 (omega arith) (omega arith))
  place_look ls o low high (place.Help b c) row = help_look v.info v.i b (row b c refl)
  place_look ls o low high place.Counter130 row = refl
  place_look ls o low high place.Bump131 row = refl
  place_look ls o low high place.Word139 row = refl
  place_look ls o low high place.State140 row = refl
  place_look ls o low high place.Child141 row = rw (same_key s t a v.p)
  place_look ls o low high place.Left144 row = refl

pub same_look : (s t : Tables) (ls : Lists) (o : Operation) (v : Locals) → Alike s t → InRow v (place_of o) → looked_at t ls o v ≡ looked_at s ls o v
unfolding looked_at place_of
same_look s t ls (Insert k q) v a row = place_look s t a v ls kind.Insert k k q row
same_look s t ls (Delete k q) v a row = place_look s t a v ls kind.Delete k k q row
same_look s t ls (Find k q) v a row = place_look s t a v ls kind.Find k k q row
same_look s t ls (Scan low high q) v a row = place_look s t a v ls kind.Find low high q row
