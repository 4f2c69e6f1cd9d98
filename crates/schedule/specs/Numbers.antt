-- The numbers of 01 for a command and for each case of an answer, and the length of a schedule.
use Rattle.std.specs.Prelude.{ℕ, Ok, Err, Some, None}
use Rattle.schedule.specs.Answers.{OpeningReading, CommandReading, Writing}
use Rattle.schedule.specs.declared.Refusal.{Refusal}
use Rattle.schedule.specs.declared.Refusal.TheVariants.{File, Size}

-- 01, 'Sizes': "Schedule: at most 65,536 bytes"
abbrev pub most_bytes : ℕ
most_bytes = 65536

-- 01, 'The schedule': "1 worker key (insert), 2 worker key (delete), 3 worker key (find), 4 worker a b (scan), 5 worker n"
abbrev pub insert : ℕ
insert = 1

abbrev pub delete : ℕ
delete = 2

abbrev pub find : ℕ
find = 3

abbrev pub scan : ℕ
scan = 4

abbrev pub turns : ℕ
turns = 5

-- 01, 'Refusal numbers'; 0 where nothing is refused
unfoldable pub refusal_number : Refusal → ℕ
refusal_number File = 8
refusal_number Size = 2

unfoldable pub writing_number : Writing → ℕ
writing_number (Ok end) = 0
writing_number (Err refusal) = refusal_number refusal

-- "the next command or the opening does not read"
unfoldable pub opening_number : OpeningReading → ℕ
opening_number (Some read) = 0
opening_number None = refusal_number File

unfoldable pub command_number : CommandReading → ℕ
command_number (Some read) = 0
command_number None = refusal_number File
