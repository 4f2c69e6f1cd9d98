-- A key in 32 bits: within a lap's ranges the product and the sum fit, and so does what remains of any key.
use mathlib.Core.Path.{◌≡◌}
use mathlib.Core.Bool.{true}
use Prim.Native.Nat.{ℕ, suc, ◌+◌, ◌*◌, ◌≤◌, ◌<◌}
use native.Mathlib.Omega.{arith}
use lib.IntN.{ℤ, pos, negsuc, nat_abs, ◌+ℤ◌, ◌*ℤ◌}
use mir.Syntax.{w32}
use mir.Val.{SFits, to_z, of_z}
use mir.ValLaws.{to_z-of_z}
use Rattle.laps.specs.Laps.{most_difference, last_entry, entries, lap_in_range, key_of, floor_rest}
use Rattle.laps.specs.Ranges.{says-lap}
use Rattle.laps.specs.Floor.{sum-below_zero, rest_below}
use Rattle.laps.proofs.Quotients.{mag_minus}

pub some_entries : 0 < entries
some_entries = omega arith

product_within : (d : ℤ) → nat_abs d ≤ most_difference → SFits w32 (d *ℤ pos entries)
product_within (pos n) near = record { sfits = omega arith }
product_within (negsuc n) near =
    record { sfits = omega (arith, mag_minus (suc n * entries) (n * entries + last_entry) (omega arith)) }

key-within : (d : ℤ) (e : ℕ) → nat_abs d ≤ most_difference → e ≤ last_entry → SFits w32 (key_of d e)
unfolding key_of
key-within (pos n) e near low = record { sfits = omega arith }
key-within (negsuc n) e near low = rw (sum-below_zero entries some_entries n e (omega arith)) (record { sfits = omega arith })

module _ (d : ℤ) (e : ℕ) (inside : lap_in_range d e ≡ true) where
  pub entry_fits : SFits w32 (pos e)
  entry_fits = record { sfits = omega (arith, ((says-lap d e).out inside).1) }

  pub product_fits : SFits w32 (d *ℤ pos entries)
  product_fits = product_within d ((says-lap d e).out inside).0

  pub key_fits : SFits w32 (key_of d e)
  key_fits = key-within d e ((says-lap d e).out inside).0 ((says-lap d e).out inside).1

  -- the machine's sum, its operands read back from their bits
  pub machine_key : to_z w32 (of_z w32 (d *ℤ pos entries)) +ℤ to_z w32 e ≡ key_of d e
  unfolding key_of
  machine_key = rw (to_z-of_z w32 (d *ℤ pos entries) product_fits, to_z-of_z w32 (pos e) entry_fits)

pub rest_fits : (key : ℤ) → SFits w32 (pos (floor_rest key entries))
rest_fits key = record { sfits = omega (arith, rest_below entries some_entries key) }
