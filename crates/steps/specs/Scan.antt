-- RANGESCAN and SCANHELPER (lines 129 to 146). A node is pending from the turn that reads its right child to the turn that reads its left.
use Rattle.std.specs.Prelude.{ℕ, ◌+◌, ◌-◌, List, Bool, true, false, ◌&&◌, eqb, leb, ltb, Option, None, Some}
use Rattle.laws.specs.Choice.{pick}
use Rattle.shapes.specs.Numbers.{last_phase}
use Rattle.shapes.specs.declared.NodeNo.{NodeNo}
use Rattle.shapes.specs.declared.Phase.{Phase}
use Rattle.shapes.specs.declared.Key.{Key}
use Rattle.shapes.specs.declared.Totals.{Totals}
use Rattle.shapes.specs.declared.Locals.{Locals}
use Rattle.shapes.specs.declared.HelpStep.TheVariants.{Counter111}
use Rattle.shapes.specs.declared.Back.TheVariants.{Node}
use Rattle.shapes.specs.declared.Place.TheVariants as place
use Rattle.shapes.specs.declared.Effect.TheVariants as effect
use Rattle.shapes.specs.declared.PendingChange.{PendingChange}
use Rattle.shapes.specs.declared.PendingChange.TheVariants as pending
use Rattle.shapes.specs.declared.Answer.TheVariants.{Keys, NoPhase}
use Rattle.shapes.specs.declared.Next.TheVariants as next
use Rattle.shapes.specs.Outcomes.{Decision}
use Rattle.tables.specs.Nodes.{is_internal, rank_at, key_at, update_at}
use Rattle.tables.specs.Records.{state_at, in_progress}
use Rattle.tables.specs.Versions.{read_child, as_parent}
use Rattle.tables.specs.World.{blank}
use Rattle.steps.specs.Hand.{at_root, at_node, at_word, does, goes, says, through}

-- the scan's lists as a turn needs them: the node pushed last, and both counts
pub record Lists : Type 0 where
  pub top : NodeNo
  pub pending : ℕ
  pub found : ℕ

-- what the turn is about: the range and the phase
pub record Range : Type 0 where
  pub low : Key
  pub high : Key
  pub seq : Phase

-- line 131; no phase when Counter stands at its last value
unfoldable pub bump131 : Totals → Locals → Decision
bump131 t v = pick (ltb t.counter last_phase) (does effect.Bump (at_root v.seq) place.Word139) (says NoPhase)

-- line 139
unfoldable pub word139 : List ℕ → Locals → Decision
word139 ns v = through (as_parent ns (Some v.p)) (λ x. goes (at_word v.seq x (update_at ns x).info) place.State140)

-- line 140
unfoldable pub state140 : List ℕ → Locals → Decision
state140 rs v =
    pick (in_progress (state_at rs v.info))
    (goes (at_word v.seq v.p v.info) (place.Help Counter111 Node))
    (goes (at_node v.seq v.p) place.Child141)

-- line 137: a leaf's key within a to b; an infinite key is above every b
unfoldable pub within : List ℕ → Range → NodeNo → Bool
within ns g c = leb g.low.0 (key_at ns c) && leb (key_at ns c) g.high.0

-- SCANHELPER is done with a leaf, so many keys are found and so many nodes pending: on with a left child, or the answer
unfoldable pub leaves : Range → PendingChange → Option Key → ℕ → ℕ → Decision
leaves g change add n k =
    pick (eqb n 0)
    (Some (record { effect = effect.Nothing; hand = blank; pending = change; found = add; next = next.Answers (Keys k) }))
    (Some (record { effect = effect.Nothing; hand = at_root g.seq; pending = change; found = add; next = next.At place.Left144 }))

-- SCANHELPER comes to c, with n nodes pending after the change
unfoldable pub comes_to : Totals → List ℕ → Range → ℕ → PendingChange → ℕ → NodeNo → Decision
comes_to t ns g keys change n c =
    pick (is_internal ns c)
    (Some (record { effect = effect.Nothing; hand = at_node g.seq c; pending = change; found = None; next = next.At place.Word139 }))
    (pick (within ns g c)
    (pick (ltb keys t.n) (leaves g change (Some (record { 0 = (rank_at ns c).word })) n (keys + 1)) None)
    (leaves g change None n keys))

-- READCHILD of x, then SCANHELPER
unfoldable pub reads : Totals → List ℕ → Range → ℕ → PendingChange → ℕ → NodeNo → Bool → Decision
reads t ns g keys change n x left = through (read_child t.nodes ns x left g.seq) (comes_to t ns g keys change n)

-- lines 141 to 143: right alone, left alone, or right with left to follow
unfoldable pub child141 : Totals → List ℕ → Range → Lists → Locals → Decision
child141 t ns g ls v =
    through (as_parent ns (Some v.p)) (λ x.
    pick (ltb (key_at ns x) g.low.0) (reads t ns g ls.found pending.Keep ls.pending x false)
    (pick (ltb g.high.0 (key_at ns x)) (reads t ns g ls.found pending.Keep ls.pending x true)
    (pick (ltb ls.pending t.n) (reads t ns g ls.found (pending.Push x) (ls.pending + 1) x false) None)))

-- line 144: the left child of the node pushed last
unfoldable pub left144 : Totals → List ℕ → Range → Lists → Decision
left144 t ns g ls = through (as_parent ns (Some ls.top)) (λ x. reads t ns g ls.found pending.Pop (ls.pending - 1) x true)
