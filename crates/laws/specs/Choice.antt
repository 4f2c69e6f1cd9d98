-- A choice by a test, shut: a definition that chooses stays readable in a goal until a law here, or `unfolding pick`, opens it.
use Rattle.std.specs.Prelude.{◌≡◌, refl, Bool, true, false}

unfoldable pub pick : {A : Type 0} → Bool → A → A → A
pick true yes-case no-case = yes-case
pick false yes-case no-case = no-case

module _ {A : Type 0} where
  -- the test is known
  pub pick_true : (b : Bool) (x y : A) → b ≡ true → pick b x y ≡ x
  unfolding pick
  pick_true b x y e = rw e

  pub pick_false : (b : Bool) (x y : A) → b ≡ false → pick b x y ≡ y
  unfolding pick
  pick_false b x y e = rw e

-- what holds on both ways holds of the choice; each way may use its test
pub fork {κ} : {A : Type 0} (Q : A → Type κ) (b : Bool) {x y : A} → (b ≡ true → Q x) → (b ≡ false → Q y) → Q (pick b x y)
unfolding pick
fork Q true f g = f refl
fork Q false f g = g refl

-- a function of a choice is a choice of the function's values
pub through-pick : {A B : Type 0} (f : A → B) (b : Bool) (x y : A) → f (pick b x y) ≡ pick b (f x) (f y)
unfolding pick
through-pick f true x y = refl
through-pick f false x y = refl
