-- How many numbers below a bound pass a test. A list without repeats, all of it below the bound and passing, is no longer.
use Rattle.std.specs.Prelude.{◌≡◌, refl, List, [], ◌∷◌, Bool, true, false, ℕ, zero, suc, ◌+◌, ◌≤◌, ◌<◌, length}
use Rattle.std.proofs.Common.{ap₂, inl, inr, arith}
use Rattle.std.proofs.Math.Decide.{ℕ_discrete}
use Rattle.laws.specs.Choice.{pick, fork}
use Rattle.laws.specs.Changed.{change, change_same, change_other}
use Rattle.trees.specs.Members.{Distinct, All}

-- 1 for a test that passes
unfoldable pub one : Bool → ℕ
one b = pick b 1 0

unfoldable pub count : ℕ → (ℕ → Bool) → ℕ
count zero p = 0
count (suc n) p = one (p n) + count n p

one_most : (b : Bool) → one b ≤ 1
unfolding one
one_most b = fork (λ k. k ≤ 1) b (λ _. omega arith) (λ _. omega arith)

one_grows : (a b : Bool) → (a ≡ true → b ≡ true) → one a ≤ one b
unfolding one pick
one_grows true b h = rw (h refl) (omega arith)
one_grows false b h = omega arith

pub count_most : (n : ℕ) (p : ℕ → Bool) → count n p ≤ n
unfolding count
count_most zero p = omega arith
count_most (suc n) p = omega (arith, count_most n p, one_most (p n))

pub count_same : (n : ℕ) (p q : ℕ → Bool) → ((k : ℕ) → k < n → p k ≡ q k) → count n p ≡ count n q
unfolding count
count_same zero p q h = refl
count_same (suc n) p q h = ap₂ (λ a b. one a + b) (h n (omega arith)) (count_same n p q (λ k l. h k (omega arith)))

-- a number that passes is one of those counted
count_without : (n : ℕ) (p : ℕ → Bool) (x : ℕ) → x < n → p x ≡ true → count n p ≡ suc (count n (change p x false))
unfolding count one pick
count_without zero p x l e = absurd (omega arith)
count_without (suc n) p x l e = elim (ℕ_discrete n x) [
  | yes same ↦ rw (same, change_same p x false, e, count_same x (change p x false) p (λ k low. change_other p x false k (omega arith))) (omega arith)
  | no other ↦ rw (change_other p x false n other, count_without n p x (omega arith) e) (omega arith)
]

pub distinct_count : (n : ℕ) (p : ℕ → Bool) (xs : List ℕ) → Distinct xs → All (λ k. k < n) xs → All (λ k. p k ≡ true) xs → length xs ≤ count n p
distinct_count n p [] once low pass = omega arith
distinct_count n p (x ∷ xs) once low pass =
    let rest : length xs ≤ count n (change p x false) = distinct_count n (change p x false) xs once.1 (λ k m. low k (inr m)) (λ k m. rw (change_other p x false k (λ e. once.0 (rw e at m))) (pass k (inr m))) in
    rw (count_without n p x (low x (inl refl)) (pass x (inl refl))) (omega arith)
