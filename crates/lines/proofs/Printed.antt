-- The digits that the machine prints are those of the definitions.
use Rattle.std.specs.Prelude.{◌≡◌, ℕ, ℤ, pos, negsuc, ◌<◌, ◌^◌, suc, ◌∷◌}
use Rattle.std.specs.Fmt as std
use Rattle.std.specs.Int.{w32}
use Rattle.std.proofs.Common.{sym, ap, arith, SFits}
use Rattle.std.proofs.lemmas.Fmt.{decimal_by_steps}
use Rattle.lines.specs.Text.{decimal, signed, minus}
use Rattle.lines.specs.Digits.{one-digit, more_digits}

pub same_decimal : (n : ℕ) → n < 2 ^ 64 → std.decimal n ≡ decimal n
same_decimal = decimal_by_steps (λ n ds. ds ≡ decimal n) (λ n h. sym (one-digit n h)) (λ n ds h e. rw e (sym (more_digits n h)))

pub same_signed : (z : ℤ) → SFits w32 z → std.signed_decimal z ≡ signed z
unfolding signed
same_signed (pos n) f = same_decimal n (omega (arith, f.sfits))
same_signed (negsuc m) f = ap (λ l. minus ∷ l) (same_decimal (suc m) (omega (arith, f.sfits)))
