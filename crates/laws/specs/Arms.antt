-- An arm of a match that names several variants of a type: what a function gives at each of them it gives at the value that
-- came to the arm.
use Rattle.std.specs.Prelude.{◌≡◌, List, [], ◌∷◌, ℕ, get_or, drop, length, replicate}
use Rattle.std.proofs.Common.{sym, ap, ◌∙◌, inl, inr}
use types.Run.{OneOf}

-- what f gives at the variants that ks numbers; numbers past the last variant stand for x
abbrev pub values_at : {A B : Type 0} → (A → B) → List A → A → List ℕ → List B
values_at f variants x [] = []
values_at f variants x (k ∷ ks) = f (get_or variants k x) ∷ values_at f variants x ks

-- x is variant n, n is one of those that the arm names, and v is the value at each of these
pub arm : {A B : Type 0} (f : A → B) {v : B} {x : A} (variants : List A) (n : ℕ) → get_or variants n x ≡ x → (ks : List ℕ) → values_at f variants x ks ≡ replicate (length ks) v → OneOf ks n → v ≡ f x
arm f variants n e [] each one = absurd one
arm f {v} variants n e (k ∷ []) each one = sym (ap (λ l. get_or l 0 v) each) ∙ ap f (rw one at e)
arm f {v} variants n e (k ∷ j ∷ ks) each (inl one) = sym (ap (λ l. get_or l 0 v) each) ∙ ap f (rw one at e)
arm f variants n e (k ∷ j ∷ ks) each (inr one) = arm f variants n e (j ∷ ks) (ap (drop 1) each) one
