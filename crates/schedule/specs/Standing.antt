-- What a reading says of a command. That every command that reads stands so, and is written again as the same bytes: proofs/Standing.antt.
use Rattle.std.specs.Prelude.{◌≡◌, List, ℕ, ◌≤◌, length, Some}
use Rattle.schedule.specs.Format.{numbers_of, Proper}
use Rattle.schedule.specs.Reading.{numbers_at}
use Rattle.schedule.specs.declared.Command.{Command}

-- what reads as a command: a proper one, of a byte at least, within what is there
pub record Stands (s : List ℕ) (c : Command) (end : ℕ) : Type 0 where
  pub proper : Proper c
  pub some : 1 ≤ end
  pub there : end ≤ length s
  pub count : ℕ
  pub numbers : numbers_at count s ≡ Some (numbers_of c, end)
