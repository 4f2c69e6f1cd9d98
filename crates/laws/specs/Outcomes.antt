-- One outcome for each input: a contract that equates what an outcome comes to with a definition of what the call was given allows
-- one outcome, if the outcome can be had back from what it comes to. Proved once, for any contract.
use Rattle.std.specs.Prelude.{◌≡◌, refl}
use Rattle.std.proofs.Common.{sym, ap, ◌∙◌}

-- a contract as the check reads it off the code: of lifetimes, what a call is given, its answer, and how that which was given stands at exit
abbrev pub Contract : Type 0 → Type 0 → Type 0 → Type 0 → Type 1
Contract K A R E = K → A → R → E → Type 0

-- any two outcomes that it allows are equal; an outcome is what is seen of it, the answer and each list that the call may write
abbrev pub OneOutcome : {K A R E O : Type 0} → Contract K A R E → (R → E → O) → Type 0
OneOutcome {K} {A} {R} {E} allows seen = (k : K) (a : A) (r q : R) (x y : E) → allows k a r x → allows k a q y → seen r x ≡ seen q y

pub one_outcome : {K A R E O L : Type 0} (seen : R → E → O) (comes : A → O → L) (back : L → O) → ((a : A) (o : O) → back (comes a o) ≡ o) → (f : K → A → L) → OneOutcome (λ (k : K) (a : A) (r : R) (x : E). comes a (seen r x) ≡ f k a) seen
one_outcome seen comes back same f k a r q x y this that = sym (same a (seen r x)) ∙ ap back (this ∙ sym that) ∙ same a (seen q y)

-- where only the answer is seen
abbrev pub answer : {R E : Type 0} → R → E → R
answer r x = r

abbrev pub OneAnswer : {K A R E : Type 0} → Contract K A R E → Type 0
OneAnswer allows = OneOutcome allows answer

-- and the contract says what it is
pub one_answer : {K A R E : Type 0} (f : K → A → R) → OneAnswer (λ (k : K) (a : A) (r : R) (x : E). r ≡ f k a)
one_answer f = one_outcome answer (λ a r. r) (λ r. r) (λ a r. refl) f

-- or says so whatever b is, of which there is one
pub one-answer-at : {K A R E B : Type 0} (b : B) (f : K → A → B → R) → OneAnswer (λ (k : K) (a : A) (r : R) (x : E). (c : B) → r ≡ f k a c)
one-answer-at b f k a r q x y this that = this b ∙ sym (that b)
