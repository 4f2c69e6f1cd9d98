-- What a worker takes into its hand, and what a turn can decide.
use Rattle.std.specs.Prelude.{ℕ, Option, None, Some}
use Rattle.shapes.specs.declared.NodeNo.{NodeNo}
use Rattle.shapes.specs.declared.RecordNo.{RecordNo}
use Rattle.shapes.specs.declared.Phase.{Phase}
use Rattle.shapes.specs.declared.Update.{Update}
use Rattle.shapes.specs.declared.Locals.{Locals}
use Rattle.shapes.specs.declared.HelpStep.TheVariants.{Counter111}
use Rattle.shapes.specs.declared.Back.TheVariants.{Again}
use Rattle.shapes.specs.declared.Place.{Place}
use Rattle.shapes.specs.declared.Place.TheVariants as place
use Rattle.shapes.specs.declared.Effect.{Effect}
use Rattle.shapes.specs.declared.Effect.TheVariants as effect
use Rattle.shapes.specs.declared.PendingChange.TheVariants as pending
use Rattle.shapes.specs.declared.Answer.{Answer}
use Rattle.shapes.specs.declared.Next.TheVariants as next
use Rattle.shapes.specs.Outcomes.{Decision}
use Rattle.tables.specs.Names.{phase, root, dummy, fresh_word}
use Rattle.tables.specs.World.{blank}

-- ---- the hand

-- a scan at a node with the record of its word (lines 139 and 140)
abbrev pub at_word : Phase → NodeNo → RecordNo → Locals
at_word q x r = record { seq = q; gp = None; p = x; l = root; gpup = fresh_word; pup = fresh_word; lup = fresh_word; sup = fresh_word; up = fresh_word; sibling = root; made = root; info = r; i = 0 }

-- a scan at a node
abbrev pub at_node : Phase → NodeNo → Locals
at_node q x = at_word q x dummy

-- lines 74, 155 and 177, then 35: the attempt's phase, p the Root and no gp; lines 130 and 131: the scan's phase, its node the Root
abbrev pub at_root : Phase → Locals
at_root q = at_node q root

-- only a record, once line 102 has filled it
abbrev pub holding : RecordNo → Locals
holding r = at_word (phase 0) root r

-- lines 37 and 38
abbrev pub down_to : Locals → NodeNo → Locals
down_to v c = record { seq = v.seq; gp = Some v.p; p = c; l = v.l; gpup = v.gpup; pup = v.pup; lup = v.lup; sup = v.sup; up = v.up; sibling = v.sibling; made = v.made; info = v.info; i = v.i }

abbrev pub with_leaf : Locals → NodeNo → Locals
with_leaf v c = record { seq = v.seq; gp = v.gp; p = v.p; l = c; gpup = v.gpup; pup = v.pup; lup = v.lup; sup = v.sup; up = v.up; sibling = v.sibling; made = v.made; info = v.info; i = v.i }

abbrev pub with_up : Locals → Update → Locals
with_up v u = record { seq = v.seq; gp = v.gp; p = v.p; l = v.l; gpup = v.gpup; pup = v.pup; lup = v.lup; sup = v.sup; up = u; sibling = v.sibling; made = v.made; info = v.info; i = v.i }

abbrev pub with_pup : Locals → Update → Locals
with_pup v u = record { seq = v.seq; gp = v.gp; p = v.p; l = v.l; gpup = v.gpup; pup = u; lup = v.lup; sup = v.sup; up = v.up; sibling = v.sibling; made = v.made; info = v.info; i = v.i }

abbrev pub with_gpup : Locals → Update → Locals
with_gpup v u = record { seq = v.seq; gp = v.gp; p = v.p; l = v.l; gpup = u; pup = v.pup; lup = v.lup; sup = v.sup; up = v.up; sibling = v.sibling; made = v.made; info = v.info; i = v.i }

abbrev pub with_sup : Locals → Update → Locals
with_sup v u = record { seq = v.seq; gp = v.gp; p = v.p; l = v.l; gpup = v.gpup; pup = v.pup; lup = v.lup; sup = u; up = v.up; sibling = v.sibling; made = v.made; info = v.info; i = v.i }

-- the leaf's own word; EXECUTE begins with i = 1
abbrev pub with_lup : Locals → Update → Locals
with_lup v u = record { seq = v.seq; gp = v.gp; p = v.p; l = v.l; gpup = v.gpup; pup = v.pup; lup = u; sup = v.sup; up = v.up; sibling = v.sibling; made = v.made; info = v.info; i = 1 }

abbrev pub with_sibling : Locals → NodeNo → Locals
with_sibling v c = record { seq = v.seq; gp = v.gp; p = v.p; l = v.l; gpup = v.gpup; pup = v.pup; lup = v.lup; sup = v.sup; up = v.up; sibling = c; made = v.made; info = v.info; i = v.i }

abbrev pub with_taken : Locals → NodeNo → RecordNo → Locals
with_taken v c r = record { seq = v.seq; gp = v.gp; p = v.p; l = v.l; gpup = v.gpup; pup = v.pup; lup = v.lup; sup = v.sup; up = v.up; sibling = v.sibling; made = c; info = r; i = v.i }

abbrev pub with_i : Locals → ℕ → Locals
with_i v k = record { seq = v.seq; gp = v.gp; p = v.p; l = v.l; gpup = v.gpup; pup = v.pup; lup = v.lup; sup = v.sup; up = v.up; sibling = v.sibling; made = v.made; info = v.info; i = k }

-- ---- decisions that leave the worker's lists alone

abbrev pub does : Effect → Locals → Place → Decision
does e v q = Some (record { effect = e; hand = v; pending = pending.Keep; found = None; next = next.At q })

abbrev pub goes : Locals → Place → Decision
goes v q = does effect.Nothing v q

abbrev pub says : Answer → Decision
says a = Some (record { effect = effect.Nothing; hand = blank; pending = pending.Keep; found = None; next = next.Answers a })

-- a new attempt: the loops of lines 73, 154 and 176
abbrev pub retries : Decision
retries = goes blank place.Counter74

-- HELP is called, and whatever it returns, a new attempt follows (lines 54 and 98)
abbrev pub helps : RecordNo → Decision
helps r = goes (holding r) (place.Help Counter111 Again)

-- go on with a node that is there, or the turn is crooked
unfoldable pub through : Option NodeNo → (NodeNo → Decision) → Decision
through None f = None
through (Some x) f = f x
