-- What the range tests say of a number's size: a range here reaches as far below zero as above it.
use Rattle.std.specs.Prelude.{◌≡◌, refl, Bool, true, false, ◌&&◌, ℕ, zero, suc, ◌≤◌, ℤ, pos, negsuc, nat_abs, leb}
use Rattle.std.proofs.lemmas.Bool.{false≢true}
use Rattle.std.proofs.Common.{arith, leb-true, le-leb}
use Rattle.laws.specs.Choice.{pick}
use Rattle.laws.specs.Tests.{Says, says_le, says_and}
use Rattle.laps.specs.Laps.{minus, refused, gives, key_refusal, between, difference_in_range, lap_in_range, pad_in_range, most_difference, last_entry, most_pad}

pub says-between : (n : ℕ) (z : ℤ) → Says (between (minus n) z (pos n)) (nat_abs z ≤ n)
unfolding between
says-between zero (pos a) = rw (le-leb 0 a (omega arith)) (says_le a 0)
says-between (suc n) (pos a) = says_le a (suc n)
says-between zero (negsuc a) = record { out = λ e. absurd (false≢true e); back = λ h. absurd (omega arith) }
says-between (suc n) (negsuc a) = rw (and_true (leb a n)) (record { out = λ e. omega (arith, leb-true a n e); back = λ h. le-leb a n (omega arith) })
  where
    and_true : (b : Bool) → (b && true) ≡ b
    and_true true = refl
    and_true false = refl

pub says_difference : (d : ℤ) → Says (difference_in_range d) (nat_abs d ≤ most_difference)
unfolding difference_in_range
says_difference d = says-between most_difference d

pub says_pad : (r : ℤ) → Says (pad_in_range r) (nat_abs r ≤ most_pad)
unfolding pad_in_range
says_pad r = says-between most_pad r

pub says-lap : (d : ℤ) (e : ℕ) → Says (lap_in_range d e) ((nat_abs d ≤ most_difference) × (e ≤ last_entry))
unfolding lap_in_range
says-lap d e = says_and (says_difference d) (says_le e last_entry)

-- ---- an answer that gives has passed its test

pub chosen : {A : Type 0} (b : Bool) (x y : A) → pick b (gives x) (refused key_refusal) ≡ gives y → (b ≡ true) × (x ≡ y)
unfolding pick
chosen true x y e = (refl, cc)
chosen false x y e = (cc, cc)
