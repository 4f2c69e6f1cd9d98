-- Division rounded down, over any divisor above zero: quotient and rest make the number again, no other pair does, and both are
-- what the machine's `/` and `%` give, corrected where something below zero remains.
use Rattle.std.specs.Prelude.{◌≡◌, ◌⊎◌, true, false, ℤ, neg_ℤ, ◌+ℤ◌, ◌-ℤ◌, ◌*ℤ◌}
use Rattle.std.proofs.Math.Path.{refl, ap}
use Rattle.std.proofs.Common.{sym, ◌∙◌, mod-eq_of_lt, suc-mul}
use Rattle.std.proofs.Math.Logic.{inl, inr, ⊎_elim}
use Rattle.std.proofs.lemmas.Bool.{false≢true}
use Prim.Native.Nat.{ℕ, zero, suc, ◌+◌, ◌*◌, ◌-◌, ◌/◌, ◌%◌, ◌≤◌, ◌<◌}
use Rattle.std.proofs.Math.Nat.{div-add-mod', mod-lt, mul-add-div_right, mul-add-mod_self_right, div-eq_of_lt}
use Rattle.std.proofs.Math.Decide.{dec_le}
use native.Mathlib.Omega.{arith}
use Rattle.std.proofs.Math.IntN.{pos, negsuc}
use Rattle.std.specs.Int.Signed.{lt_z, quot_z, rem_z}
use borrow.Author.Tests.{le-ltb}
use Rattle.laps.specs.Laps.{floor_div, floor_rest}
use Rattle.laps.specs.Floor.{sum-below_zero}

one_less : (q : ℕ) → neg_ℤ (pos q) -ℤ pos 1 ≡ negsuc q
one_less zero = refl
one_less (suc q) = ap negsuc (omega arith)

not_below_zero : (n : ℕ) → lt_z (pos n) (pos 0) ≡ true → ⊥
not_below_zero n e = false≢true (sym (le-ltb n 0 (omega arith)) ∙ e)

module _ (by : ℕ) (some : 0 < by) where
  -- ---- of natural numbers

  quotient_is : (n q r : ℕ) → r < by → n ≡ q * by + r → n / by ≡ q
  quotient_is n q r h e = rw (e, mul-add-div_right some q r, div-eq_of_lt h) (omega arith)

  rest_is : (n q r : ℕ) → r < by → n ≡ q * by + r → n % by ≡ r
  rest_is n q r h e = rw (e, mul-add-mod_self_right q by r, mod-eq_of_lt h)

  -- ---- quotient and rest make the number again

  pub floor_sum : (z : ℤ) → floor_div z by *ℤ pos by +ℤ pos (floor_rest z by) ≡ z
  unfolding floor_div floor_rest
  floor_sum (pos n) = ap pos (div-add-mod' n by)
  floor_sum (negsuc n) =
      let low : n % by < by = mod-lt n some in
      let same : n / by * by + (by - suc (by - suc (n % by))) ≡ n = omega (arith, div-add-mod' n by) in
      sum-below_zero by some (n / by) (by - suc (n % by)) (omega arith) ∙ ap negsuc same

  -- ---- and no other pair does

  pub floor_of_sum : (q : ℤ) (r : ℕ) → r < by → floor_div (q *ℤ pos by +ℤ pos r) by ≡ q
  unfolding floor_div
  floor_of_sum (pos q) r h = ap pos (quotient_is _ q r h refl)
  floor_of_sum (negsuc q) r h = rw (sum-below_zero by some q r h) (ap negsuc (quotient_is _ q (by - suc r) (omega arith) refl))

  pub rest_of_sum : (q : ℤ) (r : ℕ) → r < by → floor_rest (q *ℤ pos by +ℤ pos r) by ≡ r
  unfolding floor_rest
  rest_of_sum (pos q) r h = rest_is _ q r h refl
  rest_of_sum (negsuc q) r h = rw (sum-below_zero by some q r h, rest_is _ q (by - suc r) (omega arith) refl) (omega arith)

  -- ---- the machine's division, which drops the fraction, and its correction

  -- what one more does to n's quotient and rest: the rest grows, or was full and begins anew
  Grows : ℕ → Type 0
  Grows n = (suc n / by ≡ n / by) × (suc n % by ≡ suc (n % by))

  Turns : ℕ → Type 0
  Turns n = (suc n / by ≡ suc (n / by)) × (suc n % by ≡ 0) × (suc (n % by) ≡ by)

  next : (n : ℕ) → Grows n ⊎ Turns n
  unfolding Grows Turns
  next n = elim (dec_le (suc (suc (n % by))) by) [ yes low ↦ inl (grows low) | no full ↦ inr (turns (omega (arith, mod-lt n some))) ]
    where
      grows : suc (suc (n % by)) ≤ by → Grows n
      grows low =
          let same : suc n ≡ n / by * by + suc (n % by) = omega (arith, div-add-mod' n by) in
          (quotient_is (suc n) (n / by) (suc (n % by)) low same, rest_is (suc n) (n / by) (suc (n % by)) low same)

      turns : suc (n % by) ≡ by → Turns n
      turns full =
          let same : suc n ≡ suc (n / by) * by + 0 = omega (arith, div-add-mod' n by, suc-mul (n / by) by) in
          (quotient_is (suc n) (suc (n / by)) 0 some same, rest_is (suc n) (suc (n / by)) 0 some same, full)

  -- where something below zero remains, one less and the rest from below
  pub floor_lowered : (z : ℤ) → lt_z (rem_z z (pos by)) (pos 0) ≡ true → floor_div z by ≡ quot_z z (pos by) -ℤ pos 1
  unfolding floor_div Grows Turns
  floor_lowered (pos n) e = absurd (not_below_zero (n % by) e)
  floor_lowered (negsuc n) e = ⊎_elim (λ w. rw w.0 (sym (one_less (n / by)))) (λ w. absurd (false≢true (rw w.1 at e))) (next n)

  pub rest_raised : (z : ℤ) → lt_z (rem_z z (pos by)) (pos 0) ≡ true → pos (floor_rest z by) ≡ rem_z z (pos by) +ℤ pos by
  unfolding floor_rest Grows Turns
  rest_raised (pos n) e = absurd (not_below_zero (n % by) e)
  rest_raised (negsuc n) e = ⊎_elim (λ w. rw (w.1, le-ltb by (suc (n % by)) (mod-lt n some))) (λ w. absurd (false≢true (rw w.1 at e))) (next n)

  -- and elsewhere nothing
  pub floor_as_is : (z : ℤ) → lt_z (rem_z z (pos by)) (pos 0) ≡ false → floor_div z by ≡ quot_z z (pos by)
  unfolding floor_div Grows Turns
  floor_as_is (pos n) e = refl
  floor_as_is (negsuc n) e = ⊎_elim (λ w. absurd (false≢true (sym (rw w.1 at e)))) (λ w. rw w.0) (next n)

  pub rest_as_is : (z : ℤ) → lt_z (rem_z z (pos by)) (pos 0) ≡ false → pos (floor_rest z by) ≡ rem_z z (pos by)
  unfolding floor_rest Grows Turns
  rest_as_is (pos n) e = refl
  rest_as_is (negsuc n) e = ⊎_elim (λ w. absurd (false≢true (sym (rw w.1 at e)))) (λ w. rw (w.1, w.2) (ap pos (omega arith))) (next n)
