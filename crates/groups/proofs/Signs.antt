-- A signed number's code by its sign.
use Rattle.std.proofs.Common.{◌≡◌, ◌+◌, ◌*◌, pos, negsuc, ◌-ℤ◌, arith}
use Rattle.std.specs.Prelude.{ℤ, ◌<ℤ◌, ◌≤ℤ◌, nat_abs}
use Rattle.std.proofs.lemmas.Int.{ints}
use Rattle.groups.specs.Format.{code_of}
use Rattle.groups.specs.Codes.{even_code, odd_code}

-- under 0, what is computed is −1 less the number
pub below : (z m : ℤ) → z <ℤ pos 0 → m ≡ negsuc 0 -ℤ z → nat_abs m * 2 + 1 ≡ code_of z
unfolding code_of
below (pos n) m h e = absurd (omega (arith, ints))
below (negsuc n) m h e = omega (arith, ints)

pub from_zero : (z m : ℤ) → pos 0 ≤ℤ z → m ≡ z → nat_abs m * 2 ≡ code_of z
unfolding code_of
from_zero (pos n) m h e = omega (arith, ints)
from_zero (negsuc n) m h e = absurd (omega (arith, ints))

-- what a code is proved by, and a number of a code
pub ruleset by_sign = (ints, below, from_zero)

pub ruleset by_parity = (ints, even_code, odd_code)
