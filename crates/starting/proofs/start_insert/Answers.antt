-- `start_insert` is `insert_of`: a signed key arrives as it was sent (`to_z-of_z`).
use mir.Syntax.{w32}
use mir.ValLaws.{to_z-of_z}
use mathlib.Core.Path.{ap, ◌∙◌}
use Rattle.tables.specs.Names.{key_of}
use Rattle.steps.specs.Turn.{insert_of}
use Rattle.starting.proofs.start_insert.Goals as goal

pub returns : goal.returns
unfolding insert_of
returns c = rw (c.key_of.ensures ∙ ap key_of (to_z-of_z w32 c.args.key c.ranges.key)) at c.start.ensures
