-- What an attempt does between its search and EXECUTE: VALIDATELEAF (lines 60 to 68) and the bodies of FIND, INSERT and DELETE.
use Rattle.std.specs.Prelude.{ℕ, ◌+◌, List, Bool, ◌&&◌, eqb, leb, Option, None, Some}
use Rattle.laws.specs.Choice.{pick}
use Rattle.shapes.specs.declared.Key.{Key}
use Rattle.shapes.specs.declared.Totals.{Totals}
use Rattle.shapes.specs.declared.Locals.{Locals}
use Rattle.shapes.specs.declared.Kind.{Kind}
use Rattle.shapes.specs.declared.Kind.TheVariants as kind
use Rattle.shapes.specs.declared.Link.{Link}
use Rattle.shapes.specs.declared.Link.TheVariants.{Leaf64, Parent65, Sibling183, Left187, Right188}
use Rattle.shapes.specs.declared.LinkStep.{LinkStep}
use Rattle.shapes.specs.declared.LinkStep.TheVariants.{Word52}
use Rattle.shapes.specs.declared.LinkMove.{LinkMove}
use Rattle.shapes.specs.declared.LinkMove.TheVariants as link
use Rattle.shapes.specs.declared.Place.TheVariants as place
use Rattle.shapes.specs.declared.Effect.TheVariants as effect
use Rattle.shapes.specs.declared.Answer.TheVariants.{Yes, No, NoRoom}
use Rattle.shapes.specs.Outcomes.{Decision}
use Rattle.shapes.specs.declared.NodeNo.{NodeNo}
use Rattle.tables.specs.Names.{node, record_no, root, same_node, same_update}
use Rattle.tables.specs.Nodes.{is_internal, key_at, child_at, update_at}
use Rattle.tables.specs.Versions.{read_child, as_parent}
use Rattle.tables.specs.World.{Tables}
use Rattle.steps.specs.Hand.{with_up, with_pup, with_gpup, with_sup, with_lup, with_sibling, with_taken, does, goes, says, retries, helps, through}
use Rattle.steps.specs.Validate.{link_of, link_parent, link_child, link_left, sibling_left}

-- ---- taking nodes and a record, together or not at all

-- k nodes and one record are left
unfoldable pub room : Totals → ℕ → Bool
room t k = leb (t.nodes + k) t.n && leb (t.records + 1) t.m

-- lines 161 to 163: new leaf, sibling leaf, internal, in rising numbers; the internal one is held
unfoldable pub take_three : Totals → Key → Locals → Decision
take_three t k v =
    pick (room t 3)
    (does (effect.TakeThree k v.l v.seq) (with_taken v (node (t.nodes + 2)) (record_no t.records)) place.Leaf164)
    (says NoRoom)

-- line 185: a copy of the sibling, whose children are read next if it has any
unfoldable pub take_copy : Totals → List ℕ → Locals → Decision
take_copy t ns v =
    pick (room t 1)
    (does (effect.TakeCopy v.sibling v.p v.seq) (with_taken v (node t.nodes) (record_no t.records)) (pick (is_internal ns v.sibling) place.CopyLeft place.Word189))
    (says NoRoom)

-- ---- when the leaf is validated: lines 78 and 79, 159, 181

-- line 182 is reached: with gp absent, or p the Root so that gp has no word (line 62), it is crooked
unfoldable pub reaches182 : Locals → Option NodeNo → Decision
reaches182 v None = None
reaches182 v (Some gp) = pick (same_node v.p root) None (goes v place.Sibling182)

-- the answer, or on to line 161 or 182
unfoldable pub validated : Totals → List ℕ → Kind → Key → Locals → Decision
validated t ns kind.Find k v = pick (eqb (key_at ns v.l) k.0) (says Yes) (says No)
validated t ns kind.Insert k v = pick (eqb (key_at ns v.l) k.0) (says No) (take_three t k v)
validated t ns kind.Delete k v = pick (eqb (key_at ns v.l) k.0) (reaches182 v v.gp) (says No)

-- line 66: p's word, then gp's if that agreed and p is not the Root
unfoldable pub word66 : Totals → List ℕ → Kind → Key → Locals → Decision
word66 t ns o k v =
    through (as_parent ns (Some v.p)) (λ p.
    pick (same_update (update_at ns p) v.pup)
    (pick (same_node p root) (validated t ns o k v) (goes v place.Grand66))
    retries)

-- line 66: gp's word
unfoldable pub grand66 : Totals → List ℕ → Kind → Key → Locals → Decision
grand66 t ns o k v =
    through (as_parent ns v.gp) (λ gp.
    pick (same_update (update_at ns gp) v.gpup) (validated t ns o k v) retries)

-- ---- the rest of DELETE

-- line 182
unfoldable pub sibling182 : Totals → List ℕ → Locals → Decision
sibling182 t ns v =
    through (as_parent ns (Some v.p)) (λ p.
    through (read_child t.nodes ns p (sibling_left ns v) v.seq) (λ c.
    goes (with_sibling v c) (place.Link Sibling183 Word52)))

-- a child word of an internal sibling into the copy, without a walk: left first, then right
unfoldable pub copy_word : List ℕ → Locals → Bool → Decision
copy_word ns v left =
    through (as_parent ns (Some v.sibling)) (λ s.
    through (as_parent ns (Some v.made)) (λ copy.
    does (effect.CopyChild copy left (child_at ns s left)) v (pick left place.CopyRight (place.Link Left187 Word52))))

-- line 189: the update word of a leaf sibling
unfoldable pub word189 : List ℕ → Locals → Decision
word189 ns v = goes (with_sup v (update_at ns v.sibling)) place.Leaf190

-- lines 164 and 190: the leaf's own update word, read last, just before EXECUTE
unfoldable pub leaf_word : List ℕ → Locals → Decision
leaf_word ns v = goes (with_lup v (update_at ns v.l)) place.Frozen97

-- ---- after VALIDATELINK

-- what follows a link that holds: lines 65 and 66, 184, 188 and 190
unfoldable pub held : Totals → List ℕ → Locals → Link → Decision
held t ns v Leaf64 = goes (with_pup v v.up) (pick (same_node v.p root) place.Word66 (place.Link Parent65 Word52))
held t ns v Parent65 = goes (with_gpup v v.up) place.Word66
held t ns v Sibling183 = take_copy t ns v
held t ns v Left187 = goes (with_sup v v.up) (place.Link Right188 Word52)
held t ns v Right188 = goes v place.Leaf190

-- what a turn inside VALIDATELINK leads to; line 54 helps, and the attempt is made anew
unfoldable pub link_next : Totals → List ℕ → Locals → Link → Option LinkMove → Decision
link_next t ns v a None = None
link_next t ns v a (Some (link.Goes s u)) = goes (with_up v u) (place.Link a s)
link_next t ns v a (Some (link.Helps r)) = helps r
link_next t ns v a (Some link.Fails) = retries
link_next t ns v a (Some link.Holds) = held t ns v a

-- a turn inside the call of VALIDATELINK at line a
unfoldable pub link_step : Tables → Key → Locals → Link → LinkStep → Decision
link_step s k v a b = link_next s.totals s.nodes v a (link_of s.nodes s.records (as_parent s.nodes (link_parent v a)) (link_child s.nodes v a) (link_left s.nodes k v a) v.up b)
