-- Laps, their keys and pads: 01, 'Laps', sentence by sentence. All that the contracts cite stands here.
use Rattle.std.specs.Prelude.{Result, Ok, Err, Bool, ◌&&◌, ℕ, suc, ◌-◌, ◌/◌, ◌%◌, ℤ, pos, negsuc, neg_ℤ, ◌+ℤ◌, ◌*ℤ◌, leb}
use Rattle.std.specs.Int.Signed.{le_z, quot_z}
use Rattle.laws.specs.Choice.{pick}
use Rattle.laps.specs.declared.Lap.{Lap}
use Rattle.laps.specs.declared.OutOfRange.{OutOfRange}

-- ---- 01's numbers

-- hundredths either side of par: −1,000,000 to 1,000,000
abbrev pub most_difference : ℕ
most_difference = 1000000

-- an entry number: 0 to 1,023
abbrev pub last_entry : ℕ
last_entry = 1023

-- keys to a difference
abbrev pub entries : ℕ
entries = 1024

-- thousandths either side of par that a pad reports: −10,000,000 to 10,000,000
abbrev pub most_pad : ℕ
most_pad = 10000000

-- thousandths in a hundredth
abbrev pub per_hundredth : ℕ
per_hundredth = 10

-- the refusal 'key': a lap outside its ranges
abbrev pub key_refusal : ℕ
key_refusal = 6

abbrev pub minus : ℕ → ℤ
minus n = neg_ℤ (pos n)

-- ---- ranges

-- from low to high, both included
unfoldable pub between : ℤ → ℤ → ℤ → Bool
between low z high = le_z low z && le_z z high

-- "a difference d from par in hundredths of a second, −1,000,000 to 1,000,000"
unfoldable pub difference_in_range : ℤ → Bool
difference_in_range d = between (minus most_difference) d (pos most_difference)

-- "and an entry number e, 0 to 1,023"
unfoldable pub lap_in_range : ℤ → ℕ → Bool
lap_in_range d e = difference_in_range d && leb e last_entry

-- what a pad can report, in thousandths of a second
unfoldable pub pad_in_range : ℤ → Bool
pad_in_range r = between (minus most_pad) r (pos most_pad)

-- ---- keys

-- 1,024 keys for each difference, one for each entry
unfoldable pub key_of : ℤ → ℕ → ℤ
key_of d e = d *ℤ pos entries +ℤ pos e

-- "divided .. rounded down": a number below zero is −(n + 1), and its quotient −(n / by + 1)
unfoldable pub floor_div : ℤ → ℕ → ℤ
floor_div (pos n) by = pos (n / by)
floor_div (negsuc n) by = negsuc (n / by)

-- "what remains": from 0 to one less than the divisor, also below zero
unfoldable pub floor_rest : ℤ → ℕ → ℕ
floor_rest (pos n) by = n % by
floor_rest (negsuc n) by = by - suc (n % by)

-- the key divided by 1,024, rounded down, and the remainder
unfoldable pub lap_at : ℤ → Lap
lap_at key = record { difference = floor_div key entries; entry = floor_rest key entries }

-- ---- pads

-- a tenth of the report, what stands behind the point left out
unfoldable pub pad_difference : ℤ → ℤ
pad_difference r = quot_z r (pos per_hundredth)

-- ---- answers in 01's terms

-- a refusal by its number, or the values
pub data Told (A : Type 0) : Type 0 where
  refused : ℕ → Told A
  gives : A → Told A

unfoldable pub told : {A : Type 0} → Result A OutOfRange → Told A
told (Ok x) = gives x
told (Err e) = refused key_refusal

-- the key of a lap: "a lap outside its ranges" is refused 6
unfoldable pub key_of_lap : ℤ → ℕ → Told ℤ
key_of_lap d e = pick (lap_in_range d e) (gives (key_of d e)) (refused key_refusal)

-- the lap of a key, refused 6 where its difference would be out of range
unfoldable pub lap_of_key : ℤ → Told Lap
lap_of_key key = pick (difference_in_range (floor_div key entries)) (gives (lap_at key)) (refused key_refusal)

-- the difference that a pad's report stands for; a report outside is refused 6
unfoldable pub difference_of_pad : ℤ → Told ℤ
difference_of_pad r = pick (pad_in_range r) (gives (pad_difference r)) (refused key_refusal)
