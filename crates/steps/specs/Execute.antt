-- FROZEN and EXECUTE (lines 89 to 106).
use Rattle.std.specs.Prelude.{ℕ, ◌+◌, List, Bool, eqb, ltb, None, Some}
use Rattle.laws.specs.Choice.{pick}
use Rattle.shapes.specs.declared.NodeNo.{NodeNo}
use Rattle.shapes.specs.declared.Update.{Update}
use Rattle.shapes.specs.declared.Locals.{Locals}
use Rattle.shapes.specs.declared.Filling.{Filling}
use Rattle.shapes.specs.declared.Kind.{Kind}
use Rattle.shapes.specs.declared.Kind.TheVariants as kind
use Rattle.shapes.specs.declared.HelpStep.TheVariants.{Counter111}
use Rattle.shapes.specs.declared.Back.TheVariants.{Own}
use Rattle.shapes.specs.declared.Place.TheVariants as place
use Rattle.shapes.specs.declared.Effect.TheVariants as effect
use Rattle.shapes.specs.Outcomes.{Decision}
use Rattle.tables.specs.Names.{flag, update, same_update}
use Rattle.tables.specs.Nodes.{kind_at, update_at}
use Rattle.tables.specs.Records.{aborted, state_at, entry_at, entry, no_entry, in_progress, helpable, fillable}
use Rattle.tables.specs.Versions.{as_parent}
use Rattle.sound.specs.Homes.{listed}
use Rattle.steps.specs.Hand.{holding, with_i, does, goes, retries, helps, through}

-- lines 90 and 91: a FLAG in progress, or a MARK that is not aborted
unfoldable pub frozen : List ℕ → Update → Bool
frozen rs u = pick (eqb u.mark flag) (in_progress (state_at rs u.info)) (ltb (state_at rs u.info) aborted)

-- oldUpdate[i] as lines 164 and 190 pass it, i from 1
unfoldable pub old_update : Kind → Locals → ℕ → Update
old_update kind.Insert v i = pick (eqb i 1) v.pup v.lup
old_update kind.Delete v i = pick (eqb i 1) v.gpup (pick (eqb i 2) v.pup (pick (eqb i 3) v.lup v.sup))
old_update kind.Find v i = v.up

-- line 164: nodes [p, l], to be marked [l], par p, oldChild l
unfoldable pub insert_filling : Locals → Filling
insert_filling v = record { count = 2; par = v.p; old = v.l; new = v.made; seq = v.seq; first = entry v.p v.pup 0; second = entry v.l v.lup 1; third = no_entry; fourth = no_entry }

-- line 190: nodes [gp, p, l, sibling], to be marked [p, l, sibling], par gp, oldChild p
unfoldable pub delete_filling : Locals → NodeNo → Filling
delete_filling v g = record { count = 4; par = g; old = v.p; new = v.made; seq = v.seq; first = entry g v.gpup 0; second = entry v.p v.pup 1; third = entry v.l v.lup 1; fourth = entry v.sibling v.sup 1 }

-- line 102, with the nodes that it lists as parent, grandparent and copy of the right kind; line 103 is next
unfoldable pub fill_insert : List ℕ → Locals → Decision
fill_insert ns v =
    through (as_parent ns (Some v.p)) (λ p.
    does (effect.Fill v.info (insert_filling v)) (holding v.info) place.Freeze103)

-- the copy is of the sibling's kind
unfoldable pub fill_delete : List ℕ → Locals → Decision
fill_delete ns v =
    through (as_parent ns v.gp) (λ g.
    through (as_parent ns (Some v.p)) (λ p.
    pick (eqb (kind_at ns v.made) (kind_at ns v.sibling))
    (does (effect.Fill v.info (delete_filling v g)) (holding v.info) place.Freeze103)
    None))

-- a find has nothing to fill
unfoldable pub fills : List ℕ → Kind → Locals → Decision
fills ns kind.Insert v = fill_insert ns v
fills ns kind.Delete v = fill_delete ns v
fills ns kind.Find v = None

-- lines 96 and 97; the last test is followed by line 102, unless it would fill the dummy or a filled record
unfoldable pub frozen97 : List ℕ → List ℕ → Kind → Locals → Decision
frozen97 ns rs o v =
    pick (frozen rs (old_update o v v.i)) (goes v place.State98)
    (pick (ltb v.i (listed o)) (goes (with_i v (v.i + 1)) place.Frozen97)
    (pick (fillable rs v.info) (fills ns o v) None))

-- lines 98 and 99: the state is read a second time
unfoldable pub state98 : List ℕ → Kind → Locals → Decision
state98 rs o v =
    let u = old_update o v v.i in
    pick (in_progress (state_at rs u.info)) (helps u.info) retries

-- lines 103 to 105: the CAS of nodes[1]
unfoldable pub freeze103 : List ℕ → List ℕ → Locals → Decision
freeze103 ns rs v =
    let e = entry_at rs v.info 1 in
    pick (helpable rs v.info)
    (pick (same_update (update_at ns e.node) e.old)
    (does (effect.Freeze e.node (update flag v.info)) (holding v.info) (place.Help Counter111 Own))
    retries)
    None
