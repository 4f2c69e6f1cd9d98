-- The digits of a number, one by one, how many there are, and its sign.
use Rattle.std.specs.Prelude.{◌≡◌, List, [], ◌∷◌, ◌++◌, ℕ, zero, suc, ◌+◌, ◌*◌, ◌/◌, ◌%◌, ◌^◌, ◌≤◌, ◌<◌, ltb, ℤ, pos, negsuc, length}
use Rattle.std.proofs.Common.{sym, ap, ◌∙◌, pow-suc, arith, length-append, ltb-true, ltb-false, lt-ltb, le-ltb}
use Rattle.laws.specs.Choice.{fork, pick_true, pick_false}
use Rattle.groups.specs.Format.{code_of}
use Rattle.lines.specs.Text.{minus, digit, digits_up_to, decimal, signed}

-- what holds of one digit, and of a digit behind those above it, holds of every number
each_digits {κ} : (Q : List ℕ → Type κ) (k n : ℕ) → (n < 10 → Q (digit n ∷ [])) → (10 ≤ n → Q (digits_up_to k (n / 10) ++ (digit (n % 10) ∷ []))) → Q (digits_up_to (suc k) n)
unfolding digits_up_to
each_digits Q k n one more = fork Q (ltb n 10) (λ e. one (ltb-true n 10 e)) (λ e. more (ltb-false n 10 e))

one_up_to : (k n : ℕ) → n < 10 → digits_up_to (suc k) n ≡ digit n ∷ []
unfolding digits_up_to
one_up_to k n h = pick_true _ _ _ (lt-ltb n 10 h)

more_up_to : (k n : ℕ) → 10 ≤ n → digits_up_to (suc k) n ≡ digits_up_to k (n / 10) ++ (digit (n % 10) ∷ [])
unfolding digits_up_to
more_up_to k n h = pick_false _ _ _ (le-ltb n 10 h)

-- room that is not needed changes nothing
any-room : (j k n : ℕ) → n < j → n < k → digits_up_to j n ≡ digits_up_to k n
any-room zero k n hj hk = absurd (omega arith)
any-room (suc j) zero n hj hk = absurd (omega arith)
any-room (suc j) (suc k) n hj hk = each_digits (λ l. l ≡ digits_up_to (suc k) n) j n
    (λ h. sym (one_up_to k n h))
    (λ h. ap (λ l. l ++ (digit (n % 10) ∷ [])) (any-room j k (n / 10) (omega arith) (omega arith)) ∙ sym (more_up_to k n h))

pub one-digit : (n : ℕ) → n < 10 → decimal n ≡ digit n ∷ []
unfolding decimal
one-digit n h = one_up_to n n h

pub more_digits : (n : ℕ) → 10 ≤ n → decimal n ≡ decimal (n / 10) ++ (digit (n % 10) ∷ [])
unfolding decimal
more_digits n h = more_up_to n n h ∙ ap (λ l. l ++ (digit (n % 10) ∷ [])) (any-room n (suc (n / 10)) (n / 10) (omega arith) (omega arith))

-- below a power of ten, no more digits than it says
up_to_short : (k j n : ℕ) → n < 10 ^ suc j → length (digits_up_to k n) ≤ suc j
unfolding digits_up_to
up_to_short zero j n h = omega arith
up_to_short (suc k) zero n h = each_digits (λ l. length l ≤ 1) k n (λ l. omega arith) (λ l. absurd (omega arith))
up_to_short (suc k) (suc j) n h = each_digits (λ l. length l ≤ suc (suc j)) k n
    (λ l. omega arith)
    (λ l. let less : n / 10 < 10 ^ suc j = omega (arith, pow-suc 10 (suc j)) in
    rw (length-append (digits_up_to k (n / 10)) (digit (n % 10) ∷ [])) (omega (arith, up_to_short k j (n / 10) less)))

pub short : (j n : ℕ) → n < 10 ^ suc j → length (decimal n) ≤ suc j
unfolding decimal
short j n h = up_to_short (suc n) j n h

-- ---- signed numbers, by the code that a schedule sends

pub signed_natural : (z : ℤ) → code_of z % 2 ≡ 0 → signed z ≡ decimal (code_of z / 2)
unfolding signed code_of
signed_natural (pos n) h = let e : 2 * n / 2 ≡ n = omega arith in rw e
signed_natural (negsuc m) h = absurd (omega arith)

pub signed_negative : (z : ℤ) → (code_of z % 2 ≡ 0 → ⊥) → signed z ≡ minus ∷ decimal (code_of z / 2 + 1)
unfolding signed code_of
signed_negative (pos n) h = absurd (h (omega arith))
signed_negative (negsuc m) h = let e : (2 * m + 1) / 2 + 1 ≡ suc m = omega arith in rw e
