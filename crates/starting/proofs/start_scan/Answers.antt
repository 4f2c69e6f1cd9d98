-- `start_scan` is `scan_of`: both signed keys arrive as they were sent (`to_z-of_z`).
use mir.Syntax.{w32}
use mir.ValLaws.{to_z-of_z}
use mathlib.Core.Path.{ap, ◌∙◌}
use Rattle.tables.specs.Names.{key_of}
use Rattle.steps.specs.Turn.{scan_of}
use Rattle.starting.proofs.start_scan.Goals as goal

pub returns : goal.returns
unfolding scan_of
returns c = rw (c.key_of.ensures ∙ ap key_of (to_z-of_z w32 c.args.a c.ranges.a), c.key_of-2.ensures ∙ ap key_of (to_z-of_z w32 c.args.b c.ranges.b)) at c.start.ensures
