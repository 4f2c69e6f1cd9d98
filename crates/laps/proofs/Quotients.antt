-- The machine's signed quotient and remainder, over any width and divisor: they fit where the dividend does, and read back from
-- their bits and corrected they are the quotient rounded down and what remains.
use mathlib.Core.Path.{◌≡◌, sym, ◌∙◌}
use mathlib.Core.Bool.{true, false}
use Prim.Native.Nat.{ℕ, zero, suc, ◌/◌, ◌≤◌, ◌<◌}
use native.Mathlib.Nat.{div-le_self}
use native.Mathlib.Omega.{arith}
use lib.IntN.{ℤ, pos, negsuc, neg_ℤ, ◌+ℤ◌, ◌-ℤ◌}
use lib.Signed.{mag, lt_z, quot_z, rem_z, mag_rem}
use mir.Syntax.{Width}
use mir.Val.{SFits, to_z, of_z}
use mir.ValLaws.{sfits_le, to_z-of_z}
use Rattle.laps.specs.Laps.{floor_div, floor_rest}
use Rattle.laps.proofs.Floor.{floor_lowered, rest_raised, floor_as_is, rest_as_is}

pub mag_minus : (q n : ℕ) → q ≤ suc n → mag (neg_ℤ (pos q)) ≤ n
mag_minus zero n h = omega arith
mag_minus (suc q) n h = omega arith

mag_quotient : (z : ℤ) (by : ℕ) → mag (quot_z z (pos by)) ≤ mag z
mag_quotient (pos n) by = div-le_self n by
mag_quotient (negsuc n) by = mag_minus (suc n / by) n (div-le_self (suc n) by)

mag_floor : (z : ℤ) (by : ℕ) → mag (floor_div z by) ≤ mag z
unfolding floor_div
mag_floor (pos n) by = div-le_self n by
mag_floor (negsuc n) by = div-le_self n by

module _ (w : Width) (z : ℤ) (by : ℕ) (fits : SFits w z) where
  pub quotient_fits : SFits w (quot_z z (pos by))
  quotient_fits = sfits_le (mag_quotient z by) fits

  pub remainder_fits : SFits w (rem_z z (pos by))
  remainder_fits = sfits_le (mag_rem z (pos by)) fits

  pub floor_fits : SFits w (floor_div z by)
  floor_fits = sfits_le (mag_floor z by) fits

  module _ (some : 0 < by) where
    -- where something below zero remains
    pub lowered : lt_z (rem_z z (pos by)) (pos 0) ≡ true → to_z w (of_z w (quot_z z (pos by))) -ℤ pos 1 ≡ floor_div z by
    lowered below = rw (to_z-of_z w _ quotient_fits) (sym (floor_lowered by some z below))

    pub raised : lt_z (rem_z z (pos by)) (pos 0) ≡ true → to_z w (of_z w (rem_z z (pos by))) +ℤ pos by ≡ pos (floor_rest z by)
    raised below = rw (to_z-of_z w _ remainder_fits) (sym (rest_raised by some z below))

    -- elsewhere
    pub quotient_as_is : lt_z (rem_z z (pos by)) (pos 0) ≡ false → to_z w (of_z w (quot_z z (pos by))) ≡ floor_div z by
    quotient_as_is above = to_z-of_z w _ quotient_fits ∙ sym (floor_as_is by some z above)

    pub remainder_as_is : lt_z (rem_z z (pos by)) (pos 0) ≡ false → to_z w (of_z w (rem_z z (pos by))) ≡ pos (floor_rest z by)
    remainder_as_is above = to_z-of_z w _ remainder_fits ∙ sym (rest_as_is by some z above)
