-- HELP (lines 107 to 128) with CAS-CHILD (lines 83 to 88), once for its four calls.
use Rattle.std.specs.Prelude.{ℕ, ◌+◌, List, Bool, eqb, ltb, Option, None, Some}
use Rattle.laws.specs.Choice.{pick}
use Rattle.shapes.specs.declared.NodeNo.{NodeNo}
use Rattle.shapes.specs.declared.RecordNo.{RecordNo}
use Rattle.shapes.specs.declared.Totals.{Totals}
use Rattle.shapes.specs.declared.Locals.{Locals}
use Rattle.shapes.specs.declared.HelpStep.{HelpStep}
use Rattle.shapes.specs.declared.HelpStep.TheVariants.{Counter111, Abort112, Try113, State114, Freeze117, Frozen119, Child123, Commit124, State125, Abort126, State127}
use Rattle.shapes.specs.declared.HelpMove.{HelpMove}
use Rattle.shapes.specs.declared.HelpMove.TheVariants as help
use Rattle.shapes.specs.declared.Back.{Back}
use Rattle.shapes.specs.declared.Back.TheVariants.{Own, Again, Node}
use Rattle.shapes.specs.declared.Place.TheVariants as place
use Rattle.shapes.specs.declared.Effect.{Effect}
use Rattle.shapes.specs.declared.Effect.TheVariants as effect
use Rattle.shapes.specs.declared.Answer.TheVariants.{Yes}
use Rattle.shapes.specs.Outcomes.{Decision}
use Rattle.tables.specs.Names.{update, same_node, same_record, same_update}
use Rattle.tables.specs.Nodes.{key_at, child_at, update_at}
use Rattle.tables.specs.Records.{undecided, trying, committed, aborted, count_at, state_at, par_at, old_child_at, new_child_at, seq_at, entry_at, helpable}
use Rattle.tables.specs.World.{Tables}
use Rattle.steps.specs.Hand.{at_node, with_i, does, goes, says, retries}

-- on to a step with no effect, outside the list
abbrev pub reads : HelpStep → Option HelpMove
reads s = Some (help.Goes effect.Nothing 0 s)

-- line 111: the handshake
unfoldable pub counter111 : Totals → List ℕ → RecordNo → Option HelpMove
counter111 t rs r = pick (eqb t.counter (seq_at rs r).0) (reads Try113) (reads Abort112)

-- lines 112 and 113: a CAS of the state from ⊥
unfoldable pub state_cas : List ℕ → RecordNo → ℕ → Effect
state_cas rs r s = pick (eqb (state_at rs r) undecided) (effect.SetState r s) effect.Nothing

-- lines 114 and 115, i := 2
unfoldable pub state114 : List ℕ → RecordNo → Option HelpMove
state114 rs r = pick (eqb (state_at rs r) trying) (Some (help.Goes effect.Nothing 2 Freeze117)) (reads State125)

-- lines 116 to 118: the CAS of nodes[i]
unfoldable pub freeze_cas : List ℕ → List ℕ → RecordNo → ℕ → Effect
freeze_cas ns rs r i =
    let e = entry_at rs r i in
    pick (same_update (update_at ns e.node) e.old) (effect.Freeze e.node (update e.mark r)) effect.Nothing

-- lines 119 and 120, then 115 or 122
unfoldable pub frozen119 : List ℕ → List ℕ → RecordNo → ℕ → Option HelpMove
frozen119 ns rs r i =
    pick (same_record (update_at ns (entry_at rs r i).node).info r)
    (pick (ltb i (count_at rs r)) (Some (help.Goes effect.Nothing (i + 1) Freeze117)) (reads Child123))
    (reads State125)

-- line 84: the side of the parent on which new is set
abbrev pub cas_left : List ℕ → NodeNo → NodeNo → Bool
cas_left ns parent new = ltb (key_at ns new) (key_at ns parent)

-- lines 84 to 87, if old stands there
unfoldable pub cas_child : List ℕ → NodeNo → NodeNo → NodeNo → Effect
cas_child ns parent old new =
    let left = cas_left ns parent new in
    pick (same_node (child_at ns parent left) old) (effect.Link parent left new) effect.Nothing

-- line 125
unfoldable pub state125 : List ℕ → RecordNo → Option HelpMove
state125 rs r = pick (eqb (state_at rs r) trying) (reads Abort126) (reads State127)

-- each line of HELP; lines 112, 113, 117, 118, 123, 124 and 126 write
unfoldable pub help_step : Tables → RecordNo → ℕ → HelpStep → Option HelpMove
help_step s r i Counter111 = counter111 s.totals s.records r
help_step s r i Abort112 = Some (help.Goes (state_cas s.records r aborted) 0 State114)
help_step s r i Try113 = Some (help.Goes (state_cas s.records r trying) 0 State114)
help_step s r i State114 = state114 s.records r
help_step s r i Freeze117 = Some (help.Goes (freeze_cas s.nodes s.records r i) i Frozen119)
help_step s r i Frozen119 = frozen119 s.nodes s.records r i
help_step s r i Child123 = Some (help.Goes (cas_child s.nodes (par_at s.records r) (old_child_at s.records r) (new_child_at s.records r)) 0 Commit124)
help_step s r i Commit124 = Some (help.Goes (effect.SetState r committed) 0 State127)
help_step s r i State125 = state125 s.records r
help_step s r i Abort126 = Some (help.Goes (effect.SetState r aborted) 0 State127)
help_step s r i State127 = Some (help.Done (eqb (state_at s.records r) committed))

-- helping the dummy or an unfilled record is crooked in each turn
unfoldable pub help_of : Tables → RecordNo → ℕ → HelpStep → Option HelpMove
help_of s r i b = pick (helpable s.records r) (help_step s r i b) None

-- ---- where HELP returns to

-- line 104; lines 54 and 98, which try again; line 140
unfoldable pub back_to : Back → Locals → Bool → Decision
back_to Own v done = pick done (says Yes) retries
back_to Again v done = retries
back_to Node v done = goes (at_node v.seq v.p) place.Child141

-- on inside HELP, or back
unfoldable pub help_next : Back → Locals → Option HelpMove → Decision
help_next b v None = None
help_next b v (Some (help.Goes e i s)) = does e (with_i v i) (place.Help s b)
help_next b v (Some (help.Done done)) = back_to b v done
