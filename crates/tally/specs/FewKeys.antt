-- No decision answers with more keys than a line has places: a scan adds one only where its list has room.
use Rattle.std.specs.Prelude.{ℕ, ◌+◌, ◌≤◌, ◌≡◌, Bool, Option, None, Some}
use Rattle.std.proofs.Math.Bool.{true}
use Rattle.std.proofs.Common.{arith}
use Rattle.std.proofs.Math.Dec.{ltb}
use borrow.Author.Tests.{ltb-true}
use Rattle.laws.specs.Choice.{pick, fork}
use Rattle.shapes.specs.Numbers.{most_n}
use Rattle.shapes.specs.declared.NodeNo.{NodeNo}
use Rattle.shapes.specs.declared.Key.{Key}
use Rattle.shapes.specs.declared.Locals.{Locals}
use Rattle.shapes.specs.declared.Kind.{Kind}
use Rattle.shapes.specs.declared.Kind.TheVariants as kind
use Rattle.shapes.specs.declared.Place.{Place}
use Rattle.shapes.specs.declared.Place.TheVariants as place
use Rattle.shapes.specs.declared.Back.{Back}
use Rattle.shapes.specs.declared.Back.TheVariants.{Own, Again, Node}
use Rattle.shapes.specs.declared.Link.{Link}
use Rattle.shapes.specs.declared.Link.TheVariants.{Leaf64, Parent65, Sibling183, Left187, Right188}
use Rattle.shapes.specs.declared.LinkMove.{LinkMove}
use Rattle.shapes.specs.declared.LinkMove.TheVariants as link
use Rattle.shapes.specs.declared.HelpMove.{HelpMove}
use Rattle.shapes.specs.declared.HelpMove.TheVariants as help
use Rattle.shapes.specs.declared.Operation.{Operation}
use Rattle.shapes.specs.declared.Operation.TheVariants as operation
use Rattle.shapes.specs.declared.PendingChange.{PendingChange}
use Rattle.shapes.specs.declared.Answer.{Answer}
use Rattle.shapes.specs.declared.Answer.TheVariants.{Yes, No, Keys, NoRoom, NoPhase}
use Rattle.shapes.specs.declared.Next.{Next}
use Rattle.shapes.specs.declared.Next.TheVariants as next
use Rattle.shapes.specs.Outcomes.{Decision}
use Rattle.tables.specs.World.{Tables}
use Rattle.steps.specs.Hand.{through}
use Rattle.steps.specs.Search.{landed, search39}
use Rattle.steps.specs.Attempt.{take_three, take_copy, reaches182, validated, word66, grand66, sibling182, copy_word, word189, leaf_word, held, link_next, link_step}
use Rattle.steps.specs.Execute.{fill_insert, fill_delete, fills, frozen97, state98, freeze103}
use Rattle.steps.specs.Help.{back_to, help_next}
use Rattle.steps.specs.Scan.{Lists, Range, bump131, word139, state140, leaves, comes_to, reads, child141, left144}
use Rattle.steps.specs.Decide.{attempt, scan, decide}
use Rattle.steps.specs.Ways.{through_each, scan-places}

-- ---- what counts no more keys than there can be nodes

abbrev pub Few : Answer → Type 0
Few Yes = Unit {0}
Few No = Unit {0}
Few (Keys n) = n ≤ most_n
Few NoRoom = Unit {0}
Few NoPhase = Unit {0}

abbrev pub FewNext : Next → Type 0
FewNext (next.At q) = Unit {0}
FewNext (next.Answers a) = Few a

abbrev pub FewDecision : Decision → Type 0
FewDecision None = Unit {0}
FewDecision (Some d) = FewNext d.next

-- ---- decisions

either : (b : Bool) (x y : Decision) → FewDecision x → FewDecision y → FewDecision (pick b x y)
either b x y p q = fork FewDecision b (λ _. p) (λ _. q)

with-node : (m : Option NodeNo) (g : NodeNo → Decision) → ((x : NodeNo) → FewDecision (g x)) → FewDecision (through m g)
with-node = through_each FewDecision tt

module _ (s : Tables) (v : Locals) where
  validated_few : (o : Kind) (k : Key) → FewDecision (validated s.totals s.nodes o k v)
  unfolding validated take_three
  validated_few kind.Find k = either _ _ _ tt tt
  validated_few kind.Insert k = either _ _ _ tt (either _ _ _ tt tt)
  validated_few kind.Delete k = either _ _ _ (reaches v.gp) tt
    where
      reaches : (m : Option NodeNo) → FewDecision (reaches182 v m)
      reaches None = unfold reaches182 in tt
      reaches (Some gp) = unfold reaches182 in either _ _ _ tt tt

  link_few : (a : Link) (m : Option LinkMove) → FewDecision (link_next s.totals s.nodes v a m)
  unfolding link_next held take_copy
  link_few a None = tt
  link_few a (Some (link.Goes b u)) = tt
  link_few a (Some (link.Helps r)) = tt
  link_few a (Some link.Fails) = tt
  link_few Leaf64 (Some link.Holds) = tt
  link_few Parent65 (Some link.Holds) = tt
  link_few Sibling183 (Some link.Holds) = either _ _ _ tt tt
  link_few Left187 (Some link.Holds) = tt
  link_few Right188 (Some link.Holds) = tt

  fills_few : (o : Kind) → FewDecision (fills s.nodes o v)
  unfolding fills fill_insert fill_delete
  fills_few kind.Insert = with-node _ _ (λ p. tt)
  fills_few kind.Delete = with-node _ _ (λ g. with-node _ _ (λ p. either _ _ _ tt tt))
  fills_few kind.Find = tt

  help_few : (b : Back) (m : Option HelpMove) → FewDecision (help_next b v m)
  unfolding help_next back_to
  help_few b None = tt
  help_few b (Some (help.Goes e i q)) = tt
  help_few Own (Some (help.Done done)) = either _ _ _ tt tt
  help_few Again (Some (help.Done done)) = tt
  help_few Node (Some (help.Done done)) = tt

  -- an attempt counts no keys
  attempt_few : (o : Kind) (k : Key) (q : Place) → FewDecision (attempt s o k v q)
  unfolding attempt search39 landed link_step word66 grand66 sibling182 copy_word word189 leaf_word frozen97 state98 freeze103
  attempt_few o k place.Counter74 = tt
  attempt_few o k place.Search39 = with-node _ _ (λ p. with-node _ _ (λ c. either _ _ _ tt tt))
  attempt_few o k (place.Link a b) = link_few a _
  attempt_few o k place.Word66 = with-node _ _ (λ p. either _ _ _ (either _ _ _ (validated_few o k) tt) tt)
  attempt_few o k place.Grand66 = with-node _ _ (λ g. either _ _ _ (validated_few o k) tt)
  attempt_few o k place.Leaf164 = tt
  attempt_few o k place.Sibling182 = with-node _ _ (λ p. with-node _ _ (λ c. tt))
  attempt_few o k place.CopyLeft = with-node _ _ (λ x. with-node _ _ (λ copy. tt))
  attempt_few o k place.CopyRight = with-node _ _ (λ x. with-node _ _ (λ copy. tt))
  attempt_few o k place.Word189 = tt
  attempt_few o k place.Leaf190 = tt
  attempt_few o k place.Frozen97 = either _ _ _ tt (either _ _ _ tt (either _ _ _ (fills_few o) tt))
  attempt_few o k place.State98 = either _ _ _ tt tt
  attempt_few o k place.Freeze103 = either _ _ _ (either _ _ _ tt tt) tt
  attempt_few o k (place.Help b c) = help_few c _
  attempt_few o k place.Counter130 = tt
  attempt_few o k place.Bump131 = tt
  attempt_few o k place.Word139 = tt
  attempt_few o k place.State140 = tt
  attempt_few o k place.Child141 = tt
  attempt_few o k place.Left144 = tt

  -- a scan counts one more only where there is a place for it
  module _ (ls : Lists) (few : ls.found ≤ s.totals.n) (most : s.totals.n ≤ most_n) where
    reads_few : (g : Range) (change : PendingChange) (n : ℕ) (x : NodeNo) (left : Bool) → FewDecision (reads s.totals s.nodes g ls.found change n x left)
    unfolding reads comes_to leaves
    reads_few g change n x left = with-node _ _ (λ c.
        either _ _ _ tt (either _ _ _ (fork FewDecision (ltb ls.found s.totals.n) (λ t. either _ _ _ (one_more t) tt) (λ t. tt)) (either _ _ _ (omega (arith, few, most)) tt)))
      where
        one_more : ltb ls.found s.totals.n ≡ true → ls.found + 1 ≤ most_n
        one_more t = omega (arith, ltb-true ls.found s.totals.n t, most)

    scan_few : (a b : Key) (q : Place) → FewDecision (scan s ls a b v q)
    unfolding scan bump131 word139 state140 child141 left144
    scan_few a b =
        scan-places s s ls a b v (λ _ d _. FewDecision d)
        (λ _. tt)
        (λ c d. help_few d _)
        tt
        (either _ _ _ tt tt)
        (with-node _ _ (λ x. tt))
        (either _ _ _ tt tt)
        (with-node _ _ (λ x. either _ _ _ (reads_few _ _ _ x _) (either _ _ _ (reads_few _ _ _ x _) (either _ _ _ (reads_few _ _ _ x _) tt))))
        (with-node _ _ (λ x. reads_few _ _ _ x _))

    pub decide_few : (o : Operation) → FewDecision (decide s ls o v)
    unfolding decide
    decide_few (operation.Insert k q) = attempt_few kind.Insert k q
    decide_few (operation.Delete k q) = attempt_few kind.Delete k q
    decide_few (operation.Find k q) = attempt_few kind.Find k q
    decide_few (operation.Scan a b q) = scan_few a b q
