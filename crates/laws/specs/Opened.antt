-- Opens every public definition of the crate, and those below it, for what is computed.
use Rattle.std.specs.Prelude.{ℕ}
use Rattle.laws.specs.Changed.{change, change_on}
use Rattle.laws.specs.Choice.{pick}
use Rattle.laws.specs.Tests.{all, every}
use Rattle.laws.specs.Every.{joined}

unfoldable pub laws_opened : ℕ
unfolding change change_on pick all every joined
laws_opened = 0
