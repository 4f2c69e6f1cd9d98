-- A turn decides by at most one changeable word: tables that differ in others only give the same decision.
-- That it changes at most one is kept:Touched.one-word.
use Rattle.std.specs.Prelude.{ℕ, zero, suc, ◌≤◌, ◌<◌, ◌≡◌}
use Rattle.std.proofs.Math.Path.{refl}
use Rattle.std.proofs.Common.{ap, subst, arith}
use Rattle.std.proofs.Math.Bool.{true, false}
use Rattle.shapes.specs.declared.RecordNo.{RecordNo}
use Rattle.shapes.specs.declared.Key.{Key}
use Rattle.shapes.specs.declared.Locals.{Locals}
use Rattle.shapes.specs.declared.Kind.{Kind}
use Rattle.shapes.specs.declared.Kind.TheVariants as kind
use Rattle.shapes.specs.declared.Place.{Place}
use Rattle.shapes.specs.declared.Place.TheVariants as place
use Rattle.shapes.specs.declared.Operation.{Operation}
use Rattle.shapes.specs.declared.Operation.TheVariants.{Insert, Delete, Find, Scan}
use Rattle.tables.specs.Names.{record_no}
use Rattle.tables.specs.Records.{count_at}
use Rattle.tables.specs.RecordWrites.{filling_at}
use Rattle.tables.specs.World.{Tables}
use Rattle.sound.specs.Meaning.{Within, HandSound, PlaceSound, TablesSound}
use Rattle.sound.specs.Agree.{count_small}
use Rattle.steps.specs.Scan.{Lists}
use Rattle.steps.specs.Decide.{attempt, scan, decide}
use Rattle.steps.specs.Ways.{scan-places}
use Rattle.kept.specs.Touched.{value_at}
use Rattle.looks.specs.Looked.{place_looks, looked_at}
use Rattle.looks.specs.Alike.{Alike, OwnCopy, InRow, place_of}
use Rattle.looks.specs.Common.{SameAt, same_counter}
use Rattle.looks.proofs.ReadsAttempt.{search_one, word66-one, grand66-one, sibling_one, copy_one, sibling_word-one, leaf_one, frozen97-one, state98-one, freeze103-one}
use Rattle.looks.proofs.ReadsLink.{link-one}
use Rattle.looks.proofs.ReadsHelp.{help_one, bump_one, word139-one, state140-one, child141-one, left144-one}

module _ (s t : Tables) (a : Alike s t) (v : Locals) where
  attempt-one : (ls : Lists) (o : Kind) (k : Key) (q : Place) → OwnCopy s t v q → InRow v q → SameAt s t (place_looks s ls o k k v q) → attempt t o k v q ≡ attempt s o k v q
  unfolding attempt place_looks
  attempt-one ls o k place.Counter74 own row e = rw (same_counter s t e)
  attempt-one ls o k place.Search39 own row e = search_one s t a v k e
  attempt-one ls o k (place.Link c b) own row e = link-one s t a v k c b own e
  attempt-one ls o k place.Word66 own row e = word66-one s t a v o k e
  attempt-one ls o k place.Grand66 own row e = grand66-one s t a v o k e
  attempt-one ls o k place.Leaf164 own row e = leaf_one s t a v e
  attempt-one ls o k place.Sibling182 own row e = sibling_one s t a v e
  attempt-one ls o k place.CopyLeft own row e = copy_one s t a v true e
  attempt-one ls o k place.CopyRight own row e = copy_one s t a v false e
  attempt-one ls o k place.Word189 own row e = sibling_word-one s t a v e
  attempt-one ls o k place.Leaf190 own row e = leaf_one s t a v e
  attempt-one ls o k place.Frozen97 own row e = frozen97-one s t a v o e
  attempt-one ls o k place.State98 own row e = state98-one s t a v o e
  attempt-one ls o k place.Freeze103 own row e = freeze103-one s t a v e
  attempt-one ls o k (place.Help b c) own row e = help_one s t a v b c (row b c refl) e
  attempt-one ls o k place.Counter130 own row e = refl
  attempt-one ls o k place.Bump131 own row e = refl
  attempt-one ls o k place.Word139 own row e = refl
  attempt-one ls o k place.State140 own row e = refl
  attempt-one ls o k place.Child141 own row e = refl
  attempt-one ls o k place.Left144 own row e = refl

  scan-one : (ls : Lists) (low high : Key) (q : Place) → InRow v q → SameAt s t (place_looks s ls kind.Find low high v q) → scan t ls low high v q ≡ scan s ls low high v q
  unfolding scan place_looks
  scan-one ls low high =
      scan-places s t ls low high v (λ q d e. InRow v q → SameAt s t (place_looks s ls kind.Find low high v q) → e ≡ d)
      (λ q row e. refl)
      (λ b c row e. help_one s t a v b c (row b c refl) e)
      (λ row e. rw (same_counter s t e))
      (λ row e. bump_one s t a v e)
      (λ row e. word139-one s t a v e)
      (λ row e. state140-one s t a v e)
      (λ row e. child141-one s t a low high ls v e)
      (λ row e. left144-one s t a _ ls e)

pub reads-one : (s t : Tables) (ls : Lists) (o : Operation) (v : Locals) → Alike s t → OwnCopy s t v (place_of o) → InRow v (place_of o) → value_at t (looked_at s ls o v) ≡ value_at s (looked_at s ls o v) → decide t ls o v ≡ decide s ls o v
unfolding decide looked_at place_of
reads-one s t ls (Insert k q) v a own row e = attempt-one s t a v ls kind.Insert k q own row e
reads-one s t ls (Delete k q) v a own row e = attempt-one s t a v ls kind.Delete k q own row e
reads-one s t ls (Find k q) v a own row e = attempt-one s t a v ls kind.Find k q own row e
reads-one s t ls (Scan low high q) v a own row e = scan-one s t a v ls low high q row e

-- ---- sound tables keep i within the row

sound-count : (s : Tables) → TablesSound s → (r : RecordNo) → r.0 < s.totals.records → count_at s.records r ≤ 4
unfolding filling_at
sound-count s h r l = of r.0 refl
  where
    of : (n : ℕ) → r.0 ≡ n → count_at s.records r ≤ 4
    of zero e =
        let none : count_at s.records (record_no 0) ≡ 0 = ap (λ f. f.count) h.dummy-row in
        let same : r ≡ record_no 0 = ap record_no e in
        rw (same, none) (omega arith)
    of (suc k) e = count_small s.nodes (filling_at s.records r) (h.records r.0 (omega arith) l).count

module _ (s : Tables) (h : TablesSound s) (v : Locals) (hand : HandSound s.totals v) (n : ℕ) where
  row_within : (k : ℕ) (q : Place) → Within s.records k v n q → InRow v q
  row_within k q w b c is l =
      let at = subst (Within s.records k v n) is w l in
      let most = sound-count s h v.info hand.info in
      (at.0, omega (arith, at.1, most))

  pub sound-row : (o : Operation) → PlaceSound s.records v n o → InRow v (place_of o)
  unfolding place_of
  sound-row (Insert k q) at = row_within _ q at.1
  sound-row (Delete k q) at = row_within _ q at.1
  sound-row (Find k q) at = row_within _ q at.1
  sound-row (Scan a b q) at = row_within _ q at.1
