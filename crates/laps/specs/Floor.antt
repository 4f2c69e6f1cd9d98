-- What remains of a number, over any divisor above zero: it is below the divisor, and a quotient below zero counts it the other way.
-- That quotient and rest make the number again, and what the machine's `/` and `%` make of them: proofs/Floor.antt.
use Rattle.std.specs.Prelude.{◌≡◌, ◌+ℤ◌, ◌*ℤ◌, ℤ}
use Rattle.std.proofs.Math.Path.{ap}
use Rattle.std.proofs.Common.{suc-mul}
use Prim.Native.Nat.{ℕ, suc, ◌+◌, ◌*◌, ◌-◌, ◌<◌}
use Rattle.std.proofs.Math.Nat.{mod-lt}
use native.Mathlib.Omega.{arith}
use Rattle.std.proofs.Math.IntN.{pos, negsuc}
use borrow.Author.Tests.{lt-ltb}
use Rattle.laps.specs.Laps.{floor_rest}

module _ (by : ℕ) (some : 0 < by) where
  pub rest_below : (z : ℤ) → floor_rest z by < by
  unfolding floor_rest
  rest_below (pos n) = mod-lt n some
  rest_below (negsuc n) = omega arith

  -- q × by + r for q below zero, as −(n + 1): its rest counts the other way
  pub sum-below_zero : (q r : ℕ) → r < by → negsuc q *ℤ pos by +ℤ pos r ≡ negsuc (q * by + (by - suc r))
  sum-below_zero q r h =
      let whole : suc q * by ≡ suc (q * by + (by - 1)) = rw (suc-mul q by) (omega arith) in
      let less : r < suc (q * by + (by - 1)) = omega arith in
      let left : suc (q * by + (by - 1)) - suc r ≡ q * by + (by - suc r) = omega arith in
      rw (whole, lt-ltb r (suc (q * by + (by - 1))) less) (ap negsuc left)
