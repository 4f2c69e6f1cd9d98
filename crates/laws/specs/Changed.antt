-- A function changed at one place: a number, or a side and a number.
use Rattle.std.specs.Prelude.{◌≡◌, refl, ◌≢◌, Bool, ℕ, eqb}
use Rattle.std.proofs.Math.Path.{fun_ext}
use Rattle.std.proofs.Math.Bool.{true, false}
use Rattle.std.proofs.Common.{true≢false, eqb-true, eq-eqb, ne_eqb}
use Rattle.std.proofs.lemmas.Bool.{false≢true, eqb-false}
use Rattle.std.specs.Bool.{beq}
use Rattle.laws.specs.Choice.{pick, fork}

unfoldable pub change : {A : Type 0} → (ℕ → A) → ℕ → A → ℕ → A
change f k v n = pick (eqb n k) v (f n)

module _ {A : Type 0} where
  pub change_same : (f : ℕ → A) (k : ℕ) (v : A) → change f k v k ≡ v
  unfolding change pick
  change_same f k v = rw (eq-eqb k k refl)

  pub change_other : (f : ℕ → A) (k : ℕ) (v : A) (n : ℕ) → n ≢ k → change f k v n ≡ f n
  unfolding change pick
  change_other f k v n ne = rw (ne_eqb n k ne)

  -- what holds of the new value there, and of the old ones elsewhere
  pub change_case {κ} : (Q : A → Type κ) (f : ℕ → A) (k : ℕ) (v : A) (n : ℕ) → (n ≡ k → Q v) → (n ≢ k → Q (f n)) → Q (change f k v n)
  unfolding change
  change_case Q f k v n here there = fork Q (eqb n k) (λ e. here (eqb-true n k e)) (λ e. there (eqb-false n k e))

  -- a function that meets the two laws is the changed one
  pub change_is : (f g : ℕ → A) (k : ℕ) (v : A) → g k ≡ v → ((n : ℕ) → n ≢ k → g n ≡ f n) → g ≡ change f k v
  change_is f g k v here there = fun_ext (λ n. change_case (λ x. g n ≡ x) f k v n (λ e. rw e here) (there n))

-- two numbers are equal or not
pub by_equal {κ} : {A : Type κ} (m n : ℕ) → (m ≡ n → A) → (m ≢ n → A) → A
by_equal {A = A} m n same other = fork {A = Bool} (λ b. A) (eqb m n) {x = true} {y = true} (λ e. same (eqb-true m n e)) (λ e. other (eqb-false m n e))

-- ---- one function for each side, changed on one side only

unfoldable pub change_on : {A : Type 0} → (Bool → ℕ → A) → Bool → ℕ → A → Bool → ℕ → A
change_on f d k v e = pick (beq e d) (change (f e) k v) (f e)

module _ {A : Type 0} (f : Bool → ℕ → A) where
  pub change_on_case {κ} : (d : Bool) (k : ℕ) (v : A) (Q : A → Type κ) (e : Bool) (n : ℕ) → (e ≡ d → n ≡ k → Q v) → ((e ≡ d → n ≡ k → ⊥) → Q (f e n)) → Q (change_on f d k v e n)
  unfolding change_on pick
  change_on_case true k v Q true n here there = change_case Q (f true) k v n (here refl) (λ h. there (λ _. h))
  change_on_case false k v Q false n here there = change_case Q (f false) k v n (here refl) (λ h. there (λ _. h))
  change_on_case true k v Q false n here there = there (λ e. absurd (false≢true e))
  change_on_case false k v Q true n here there = there (λ e. absurd (true≢false e))

  module _ (d : Bool) (k : ℕ) (v : A) where
    pub change_on_same : change_on f d k v d k ≡ v
    change_on_same = change_on_case d k v (λ x. x ≡ v) d k (λ _ _. refl) (λ h. absurd (h refl refl))

    pub change_on_other : (e : Bool) (n : ℕ) → (e ≡ d → n ≡ k → ⊥) → change_on f d k v e n ≡ f e n
    change_on_other e n apart = change_on_case d k v (λ x. x ≡ f e n) e n (λ s m. absurd (apart s m)) (λ _. refl)

    pub change_on_is : (g : Bool → ℕ → A) → g d k ≡ v → ((e : Bool) (n : ℕ) → (e ≡ d → n ≡ k → ⊥) → g e n ≡ f e n) → g ≡ change_on f d k v
    change_on_is g here there = fun_ext (λ e. fun_ext (λ n. change_on_case d k v (λ x. g e n ≡ x) e n (λ s m. rw (s, m) here) (there e n)))
