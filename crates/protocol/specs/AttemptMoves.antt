-- Every accepted turn of an insert, a delete or a find keeps the invariant, gives the others what they count on, and knows what its next place needs.
use Rattle.std.specs.Prelude.{ℕ, true, false}
use Rattle.shapes.specs.declared.Key.{Key}
use Rattle.shapes.specs.declared.Locals.{Locals}
use Rattle.shapes.specs.declared.Kind.{Kind}
use Rattle.shapes.specs.declared.Kind.TheVariants as kind
use Rattle.shapes.specs.declared.Operation.TheVariants.{Insert, Delete, Find}
use Rattle.shapes.specs.declared.Place.{Place}
use Rattle.shapes.specs.declared.Place.TheVariants as place
use Rattle.tables.specs.World.{Tables}
use Rattle.sound.specs.Meaning.{TablesSound}
use Rattle.steps.specs.Decide.{attempt}
use Rattle.views.specs.View.{view}
use Rattle.protocol.specs.Ghost.{Ghost}
use Rattle.protocol.specs.Invariant.{Holds}
use Rattle.protocol.specs.Trees.{Linked, Version}
use Rattle.protocol.specs.AttemptPlaces.{OfInsert, OfDelete, AttemptKnows}
use Rattle.protocol.specs.AttemptTurns.{Decides, help_decides}
use Rattle.protocol.specs.AttemptSearch.{counter74, search_decides}
use Rattle.protocol.specs.AttemptTakes.{word_decides, grand_decides, sibling_decides}
use Rattle.protocol.specs.AttemptCopies.{copies_decide, sup_decides, delete_lup, insert_lup}
use Rattle.protocol.specs.AttemptLinks.{link_decides}
use Rattle.protocol.specs.AttemptExecute.{tests-decide, state_decides, freeze_decides}

-- a place that only one kind comes to
by_insert : (o : Kind) (Q : Kind → Type 0) {A : Type 0} → OfInsert o A → (A → Q kind.Insert) → Q o
by_insert kind.Insert Q a f = f a
by_insert kind.Delete Q a f = absurd a
by_insert kind.Find Q a f = absurd a

by_delete : (o : Kind) (Q : Kind → Type 0) {A : Type 0} → OfDelete o A → (A → Q kind.Delete) → Q o
by_delete kind.Insert Q a f = absurd a
by_delete kind.Delete Q a f = f a
by_delete kind.Find Q a f = absurd a

module _ (w : ℕ) (s : Tables) (h : TablesSound s) (G : Ghost) (H : Holds (view s) G) (root : Linked G 0) (versions : (i : ℕ) → Version (view s) i) where
  pub attempt_decides : (o : Kind) (k : Key) (v : Locals) (q : Place) → AttemptKnows w (view s) G o k v q → Decides w s G o k (attempt s o k v q)
  unfolding attempt
  attempt_decides o k v place.Counter74 a = counter74 w s h G H o k root (versions s.totals.counter)
  attempt_decides o k v place.Search39 a = search_decides w s h G H o k v a
  attempt_decides o k v (place.Link c b) a = link_decides w s h G H o k v c b a
  attempt_decides o k v place.Word66 a = word_decides w s h G H k v o a
  attempt_decides o k v place.Grand66 a = grand_decides w s h G H k v o a
  attempt_decides o k v place.Leaf164 a = by_insert o (λ c. Decides w s G c k (attempt s c k v place.Leaf164)) a (insert_lup w s h G H k v)
  attempt_decides o k v place.Sibling182 a = by_delete o (λ c. Decides w s G c k (attempt s c k v place.Sibling182)) a (sibling_decides w s h G H k v)
  attempt_decides o k v place.CopyLeft a = by_delete o (λ c. Decides w s G c k (attempt s c k v place.CopyLeft)) a (λ u. copies_decide w s h G H k v u true)
  attempt_decides o k v place.CopyRight a = by_delete o (λ c. Decides w s G c k (attempt s c k v place.CopyRight)) a (λ u. copies_decide w s h G H k v u false)
  attempt_decides o k v place.Word189 a = by_delete o (λ c. Decides w s G c k (attempt s c k v place.Word189)) a (sup_decides w s h G H k v)
  attempt_decides o k v place.Leaf190 a = by_delete o (λ c. Decides w s G c k (attempt s c k v place.Leaf190)) a (delete_lup w s h G H k v)
  attempt_decides o k v place.Frozen97 a = tests-decide w s h G H k o v a
  attempt_decides o k v place.State98 a = state_decides w s h G H k o v a
  attempt_decides o k v place.Freeze103 a = freeze_decides w s h G H k o v a
  attempt_decides o k v (place.Help b c) a = help_decides w s G H o k h b c v a
  attempt_decides o k v place.Counter130 a = tt
  attempt_decides o k v place.Bump131 a = tt
  attempt_decides o k v place.Word139 a = tt
  attempt_decides o k v place.State140 a = tt
  attempt_decides o k v place.Child141 a = tt
  attempt_decides o k v place.Left144 a = tt
