-- The numbers of 01 for each case of an answer, and the sizes of 01.
use Rattle.std.specs.Prelude.{ℕ}
use Rattle.shapes.specs.declared.Refusal.{Refusal}
use Rattle.shapes.specs.declared.Refusal.TheVariants.{Table, Size, Worker, Busy, Idle, Crooked}

-- 01, 'Refusal numbers'
unfoldable pub refusal_number : Refusal → ℕ
refusal_number Table = 1
refusal_number Size = 2
refusal_number Worker = 3
refusal_number Busy = 4
refusal_number Idle = 5
refusal_number Crooked = 7

-- 01, 'Sizes'
abbrev pub least_n : ℕ
least_n = 8

abbrev pub most_n : ℕ
most_n = 1024

abbrev pub least_m : ℕ
least_m = 2

abbrev pub most_m : ℕ
most_m = 512

abbrev pub least_p : ℕ
least_p = 1

abbrev pub most_p : ℕ
most_p = 8

abbrev pub last_phase : ℕ
last_phase = 65535
