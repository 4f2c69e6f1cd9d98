-- What the code answers: an opening or a command and where the rest begins, or a fault; where what was written ends, or why nothing was.
use Rattle.std.specs.Prelude.{ℕ, Option, Result}
use Rattle.lending.specs.declared.Sizes.{Sizes}
use Rattle.schedule.specs.declared.Command.{Command}
use Rattle.schedule.specs.declared.Refusal.{Refusal}

abbrev pub opening : ℕ → ℕ → ℕ → Sizes
opening n m p = record { n = n; m = m; p = p }

abbrev pub OpeningReading : Type 0
OpeningReading = Option (Sizes × ℕ)

abbrev pub CommandReading : Type 0
CommandReading = Option (Command × ℕ)

abbrev pub Writing : Type 0
Writing = Result ℕ Refusal
