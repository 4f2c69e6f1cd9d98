-- What is lent, as the world that it is with a board; and what a call leaves of it.
use Rattle.std.specs.Prelude.{◌≡◌, refl, length}
use Rattle.std.proofs.Common.{◌∙◌}
use Rattle.shapes.specs.declared.Board.{Board}
use Rattle.shapes.specs.declared.Reply.{Reply}
use Rattle.tables.specs.World.{World, world}
use Rattle.tables.specs.Fresh.{Left, left}
use Rattle.lending.specs.declared.Lent.{Lent}
use Rattle.lending.specs.declared.Shown.{Shown}

abbrev pub lent_world : Board → Lent → World
lent_world b l = world b l.nodes.now l.records.now l.pending.now l.found.now

abbrev pub shown_world : Board → Shown → World
shown_world b l = world b l.nodes.now l.records.now l.pending.now l.found.now

abbrev pub lent_left : Reply → Lent → Left
lent_left r l = left r l.nodes.now l.records.now l.pending.now l.found.now

abbrev pub shown_left : Reply → Shown → Left
shown_left r l = left r l.nodes.now l.records.now l.pending.now l.found.now

-- the very lists that were lent, each as long as it was
abbrev pub SameLists : Lent → Lent → Type 0
SameLists l m = (l.nodes.ghost_name ≡ m.nodes.ghost_name) × (l.records.ghost_name ≡ m.records.ghost_name) × (l.pending.ghost_name ≡ m.pending.ghost_name) × (l.found.ghost_name ≡ m.found.ghost_name)
    × (length l.nodes.now ≡ length m.nodes.now) × (length l.records.now ≡ length m.records.now) × (length l.pending.now ≡ length m.pending.now) × (length l.found.now ≡ length m.found.now)

pub same_lists : (l : Lent) → SameLists l l
same_lists l = (refl, refl, refl, refl, refl, refl, refl, refl)

pub same_lists-through : (l m n : Lent) → SameLists l m → SameLists m n → SameLists l n
same_lists-through l m n e f = (e.0 ∙ f.0, e.1 ∙ f.1, e.2 ∙ f.2, e.3 ∙ f.3, e.4 ∙ f.4, e.5 ∙ f.5, e.6 ∙ f.6, e.7 ∙ f.7)
