-- The word that a turn sets is the one that it looks at, or the worker's own (lines 102 and 185); from any tables.
use Rattle.std.specs.Prelude.{ℕ, ◌≡◌, Bool, Option, None, Some}
use Rattle.std.proofs.Math.Path.{refl}
use Rattle.std.proofs.Math.Logic.{inl, inr}
use Rattle.std.proofs.Math.Bool.{true, false}
use Rattle.laws.specs.Choice.{pick, fork}
use Rattle.shapes.specs.declared.RecordNo.{RecordNo}
use Rattle.shapes.specs.declared.Key.{Key}
use Rattle.shapes.specs.declared.Locals.{Locals}
use Rattle.shapes.specs.declared.Kind.{Kind}
use Rattle.shapes.specs.declared.Kind.TheVariants as kind
use Rattle.shapes.specs.declared.HelpStep.{HelpStep}
use Rattle.shapes.specs.declared.HelpStep.TheVariants.{Counter111, Abort112, Try113, State114, Freeze117, Frozen119, Child123, Commit124, State125, Abort126, State127}
use Rattle.shapes.specs.declared.HelpMove.{HelpMove}
use Rattle.shapes.specs.declared.HelpMove.TheVariants as help
use Rattle.shapes.specs.declared.Back.{Back}
use Rattle.shapes.specs.declared.Back.TheVariants.{Own, Again, Node}
use Rattle.shapes.specs.declared.Place.{Place}
use Rattle.shapes.specs.declared.Place.TheVariants as place
use Rattle.shapes.specs.declared.Operation.{Operation}
use Rattle.shapes.specs.declared.Operation.TheVariants.{Insert, Delete, Find, Scan}
use Rattle.shapes.specs.declared.Effect.{Effect}
use Rattle.tables.specs.World.{Tables}
use Rattle.steps.specs.Search.{landed, search39}
use Rattle.steps.specs.Attempt.{word66, grand66, sibling182, copy_word, word189, leaf_word, link_step}
use Rattle.steps.specs.Execute.{fill_insert, fill_delete, fills, frozen97, state98, freeze103}
use Rattle.steps.specs.Help.{counter111, state_cas, state114, freeze_cas, frozen119, cas_child, state125, help_step, help_of, back_to, help_next}
use Rattle.steps.specs.Scan.{Lists, bump131, word139, state140, child141, left144}
use Rattle.steps.specs.Decide.{attempt, scan, decide}
use Rattle.steps.specs.Ways.{scan-places}
use Rattle.kept.specs.Touched.{Changeable, none, touched}
use Rattle.looks.specs.Looked.{help_looks, place_looks, looked_at}
use Rattle.looks.specs.Setting.{SetsOnly, Sets, SetsMove, either, with-node, as_parent_lem, validated-sets, link-sets, reads-sets}

-- ---- HELP: each CAS and each write is of the word looked at

module _ (s : Tables) (r : RecordNo) (i : ℕ) (v : Locals) where
  move_pick : (c : Changeable) (b : Bool) (x y : Option HelpMove) → SetsMove c v x → SetsMove c v y → SetsMove c v (pick b x y)
  move_pick c b x y p q = fork (SetsMove c v) b (λ _. p) (λ _. q)

  cas : (c : Changeable) (b : Bool) (x y : Effect) → touched x ≡ c → touched y ≡ none → SetsOnly c v (pick b x y)
  cas c b x y p q = fork (SetsOnly c v) b (λ _. inr (inl p)) (λ _. inl q)

  step_sets : (b : HelpStep) → SetsMove (help_looks s r i b) v (help_step s r i b)
  unfolding help_step help_looks counter111 state_cas state114 freeze_cas frozen119 cas_child state125 touched
  step_sets Counter111 = move_pick _ _ _ _ (inl refl) (inl refl)
  step_sets Abort112 = cas _ _ _ _ refl refl
  step_sets Try113 = cas _ _ _ _ refl refl
  step_sets State114 = move_pick _ _ _ _ (inl refl) (inl refl)
  step_sets Freeze117 = cas _ _ _ _ refl refl
  step_sets Frozen119 = move_pick _ _ _ _ (move_pick _ _ _ _ (inl refl) (inl refl)) (inl refl)
  step_sets Child123 = cas _ _ _ _ refl refl
  step_sets Commit124 = inr (inl refl)
  step_sets State125 = move_pick _ _ _ _ (inl refl) (inl refl)
  step_sets Abort126 = inr (inl refl)
  step_sets State127 = tt

  next_sets : (c : Changeable) (b : Back) (m : Option HelpMove) → SetsMove c v m → Sets c v (help_next b v m)
  unfolding help_next back_to touched
  next_sets c b None h = tt
  next_sets c b (Some (help.Goes e j q)) h = h
  next_sets c Own (Some (help.Done done)) h = either c v _ _ _ (inl refl) (inl refl)
  next_sets c Again (Some (help.Done done)) h = inl refl
  next_sets c Node (Some (help.Done done)) h = inl refl

  help_sets : (b : HelpStep) (back : Back) → Sets (help_looks s r i b) v (help_next back v (help_of s r i b))
  unfolding help_of
  help_sets b back = next_sets _ back _ (move_pick _ _ _ _ (step_sets b) tt)

-- ---- every place

module _ (s : Tables) (v : Locals) where
  fills-sets : (c : Changeable) (o : Kind) → Sets c v (fills s.nodes o v)
  unfolding fills fill_insert fill_delete touched
  fills-sets c kind.Insert = with-node _ v _ _ (λ p. inr (inr refl))
  fills-sets c kind.Delete = with-node _ v _ _ (λ g. with-node _ v _ _ (λ p. either _ v _ _ _ (inr (inr refl)) tt))
  fills-sets c kind.Find = tt

  copy_sets : (c : Changeable) (left : Bool) → Sets c v (copy_word s.nodes v left)
  unfolding copy_word touched
  copy_sets c left = with-node _ v _ _ (λ x. as_parent_lem _ v s.nodes v.made _ (inr (inr refl)))

  attempt-sets : (ls : Lists) (o : Kind) (k : Key) (q : Place) → Sets (place_looks s ls o k k v q) v (attempt s o k v q)
  unfolding attempt place_looks search39 landed link_step word66 grand66 sibling182 word189 leaf_word frozen97 state98 freeze103 touched
  attempt-sets ls o k place.Counter74 = inl refl
  attempt-sets ls o k place.Search39 = with-node _ v _ _ (λ p. with-node _ v _ _ (λ c. either _ v _ _ _ (inl refl) (inl refl)))
  attempt-sets ls o k (place.Link a b) = link-sets _ v s.totals s.nodes a _
  attempt-sets ls o k place.Word66 = with-node _ v _ _ (λ p. either _ v _ _ _ (either _ v _ _ _ (validated-sets _ v s.totals s.nodes o k) (inl refl)) (inl refl))
  attempt-sets ls o k place.Grand66 = with-node _ v _ _ (λ g. either _ v _ _ _ (validated-sets _ v s.totals s.nodes o k) (inl refl))
  attempt-sets ls o k place.Leaf164 = inl refl
  attempt-sets ls o k place.Sibling182 = with-node _ v _ _ (λ p. with-node _ v _ _ (λ c. inl refl))
  attempt-sets ls o k place.CopyLeft = copy_sets _ true
  attempt-sets ls o k place.CopyRight = copy_sets _ false
  attempt-sets ls o k place.Word189 = inl refl
  attempt-sets ls o k place.Leaf190 = inl refl
  attempt-sets ls o k place.Frozen97 = either _ v _ _ _ (inl refl) (either _ v _ _ _ (inl refl) (either _ v _ _ _ (fills-sets _ o) tt))
  attempt-sets ls o k place.State98 = either _ v _ _ _ (inl refl) (inl refl)
  attempt-sets ls o k place.Freeze103 = either _ v _ _ _ (either _ v _ _ _ (inr (inl refl)) (inl refl)) tt
  attempt-sets ls o k (place.Help b c) = help_sets s v.info v.i v b c
  attempt-sets ls o k place.Counter130 = tt
  attempt-sets ls o k place.Bump131 = tt
  attempt-sets ls o k place.Word139 = tt
  attempt-sets ls o k place.State140 = tt
  attempt-sets ls o k place.Child141 = tt
  attempt-sets ls o k place.Left144 = tt

  scan-sets : (ls : Lists) (low high : Key) (q : Place) → Sets (place_looks s ls kind.Find low high v q) v (scan s ls low high v q)
  unfolding scan place_looks bump131 word139 state140 child141 left144 touched
  scan-sets ls low high =
      scan-places s s ls low high v (λ q d _. Sets (place_looks s ls kind.Find low high v q) v d)
      (λ _. tt)
      (λ b c. help_sets s v.info v.i v b c)
      (inl refl)
      (either _ v _ _ _ (inr (inl refl)) (inl refl))
      (with-node _ v _ _ (λ x. inl refl))
      (either _ v _ _ _ (inl refl) (inl refl))
      (with-node _ v _ _ (λ x. either _ v _ _ _ (reads-sets _ v s.totals s.nodes _ _ _ _ x false) (either _ v _ _ _ (reads-sets _ v s.totals s.nodes _ _ _ _ x true) (either _ v _ _ _ (reads-sets _ v s.totals s.nodes _ _ _ _ x false) tt))))
      (with-node _ v _ _ (λ x. reads-sets _ v s.totals s.nodes _ _ _ _ x true))

pub sets_looked : (s : Tables) (ls : Lists) (o : Operation) (v : Locals) → Sets (looked_at s ls o v) v (decide s ls o v)
unfolding decide looked_at
sets_looked s ls (Insert k q) v = attempt-sets s v ls kind.Insert k q
sets_looked s ls (Delete k q) v = attempt-sets s v ls kind.Delete k q
sets_looked s ls (Find k q) v = attempt-sets s v ls kind.Find k q
sets_looked s ls (Scan low high q) v = scan-sets s v ls low high q
