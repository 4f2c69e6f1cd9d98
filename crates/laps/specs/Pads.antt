-- Pads: the fraction is dropped, and what is left is a difference that a lap may have.
use Rattle.std.specs.Prelude.{◌≡◌, refl, true, ℕ, zero, suc, ◌/◌, ℤ, pos, negsuc, neg_ℤ, nat_abs}
use Rattle.std.proofs.Common.{arith}
use Rattle.laps.specs.Laps.{gives, pad_in_range, pad_difference, per_hundredth, difference_in_range, difference_of_pad}
use Rattle.laps.specs.Ranges.{says_pad, says_difference, chosen}

-- as far from zero as the report, without the last digit
pub fraction_dropped : (r : ℤ) → nat_abs (pad_difference r) ≡ nat_abs r / per_hundredth
unfolding pad_difference
fraction_dropped (pos n) = refl
fraction_dropped (negsuc n) = size-minus (suc n / per_hundredth)
  where
    size-minus : (q : ℕ) → nat_abs (neg_ℤ (pos q)) ≡ q
    size-minus zero = refl
    size-minus (suc q) = refl

-- the difference that a pad's report is given, a lap may have
pub pad_is_difference : (r d : ℤ) → difference_of_pad r ≡ gives d → difference_in_range d ≡ true
unfolding difference_of_pad
pad_is_difference r d given =
    let passed = chosen (pad_in_range r) (pad_difference r) d given in
    rw (← passed.1) ((says_difference (pad_difference r)).back (omega (arith, (says_pad r).out passed.0, fraction_dropped r)))
