-- How code comes to many tests: what `all` answers over a range is `every` of its numbers; a loop that counts down through `every`; and the
-- tests of `all` joined from left to right.
use Rattle.std.specs.Prelude.{◌≡◌, refl, List, [], ◌∷◌, Bool, true, false, ◌&&◌, not, ℕ, zero, suc, ◌+◌, ◌-◌, ◌≤◌, ◌<◌}
use denote.Param.Members.{Mut}
use Rattle.std.specs.Fn.{Called}
use Rattle.std.specs.Iterator.{YieldsThen, AlwaysYields}
use Rattle.std.specs.List.{FoldsTo, list_all, range_with_len}
use Rattle.std.specs.Option.{MatchOption}
use Rattle.std.specs.Iterator.Adapters.{rev_source, rev_steps}
use Rattle.std.specs.Range.{range_steps_back, range_inclusive_steps, range_inclusive_left, range_inclusive_len, range_inclusive_start, range_inclusive_end, range_inclusive_exhausted}
use Rattle.std.specs.declared.option.Option.{Option}
use Rattle.std.specs.declared.ops.Range.{Range}
use Rattle.std.specs.declared.ops.RangeInclusive.{RangeInclusive}
use Rattle.std.specs.declared.iter.Rev.{Rev}
use Rattle.std.proofs.Common.{sym, ap, ◌∙◌, arith, add-one}
use Rattle.std.proofs.iter.Yields.{nat_range_steps}
use Rattle.std.proofs.lemmas.Bool.{not-true, not-false}
use native.Mathlib.Nat.{add-zero, sub-zero}
use Rattle.std.proofs.lemmas.Iterator.{YieldsList, YieldsList-from_range}
use Rattle.std.proofs.lemmas.Iterator.Search.{all_from_yields_List}
use Rattle.laws.specs.Choice.{pick}
use Rattle.laws.specs.Tests.{Says, says_and, says_as, says_itself, says-every, all, every}

-- ---- `all` over a range: `every` says what it says

-- two tests that say the same are equal
same_says : {A : Type 0} (a b : Bool) → Says a A → Says b A → a ≡ b
same_says true true x y = refl
same_says false false x y = refl
same_says true false x y = sym (y.back (x.out refl))
same_says false true x y = x.back (y.out refl)

module _ (f : ℕ → Bool) where
  says_range : (a n : ℕ) → Says (list_all f (range_with_len a n)) ((k : ℕ) → k < n → f (k + a) ≡ true)
  says_range a zero = record { out = λ e k h. absurd (omega arith); back = λ h. refl }
  says_range a (suc n) = says_as (says_and (says_itself (f a)) (says_range (a + 1) n)) spread (λ h. (first h, λ k l. later h k l))
    where
      spread : (f a ≡ true) × ((k : ℕ) → k < n → f (k + (a + 1)) ≡ true) → (k : ℕ) → k < suc n → f (k + a) ≡ true
      spread h zero l = let e : 0 + a ≡ a = omega arith in rw e h.0
      spread h (suc k) l = let e : suc k + a ≡ k + (a + 1) = omega arith in rw e (h.1 k (omega arith))

      first : ((k : ℕ) → k < suc n → f (k + a) ≡ true) → f a ≡ true
      first h = let e : 0 + a ≡ a = omega arith in rw e at (h 0 (omega arith))

      later : ((k : ℕ) → k < suc n → f (k + a) ≡ true) → (k : ℕ) → k < n → f (k + (a + 1)) ≡ true
      later h k l = let e : suc k + a ≡ k + (a + 1) = omega arith in rw e at (h (suc k) (omega arith))

  every_range : (a n : ℕ) → list_all f (range_with_len a n) ≡ every n (λ i. f (i + a))
  every_range a n = same_says _ _ (says_range a n) (says-every n (λ i. f (i + a)) (λ i. f (i + a) ≡ true) (λ k. says_itself (f (k + a))))

-- `a..=b` gives the numbers that it has left
abbrev pub up_to_left : RangeInclusive ℕ → ℕ
up_to_left s = range_inclusive_left (λ x y. y - x) s

abbrev pub up_to_steps : RangeInclusive ℕ → Option ℕ → RangeInclusive ℕ → Type 0
up_to_steps = range_inclusive_steps (λ x y. y - x) (λ x y. y ≡ x + 1)

up_to_moves : (s j : RangeInclusive ℕ) (b : Bool) → range_inclusive_exhausted j ≡ b → 0 < up_to_left j → (range_inclusive_exhausted j ≡ false → range_inclusive_start j ≡ range_inclusive_start s + 1) → range_inclusive_start j ≡ range_inclusive_start s + 1
up_to_moves s j true e l f = absurd (omega (arith, ap (range_inclusive_len (λ x y. y - x) (range_inclusive_start j) (range_inclusive_end j)) e))
up_to_moves s j false e l f = f e

up_to_gives : (a n : ℕ) (s : RangeInclusive ℕ) → up_to_left s ≡ n → (0 < n → range_inclusive_start s ≡ a) → AlwaysYields up_to_steps (λ x. x) s (range_with_len a n)
up_to_gives a zero s e h = λ x j p. omega (arith, p.1.1)
up_to_gives a (suc n) s e h = (λ j p. omega (arith, p.1.0), λ x j p. (p.1.0 ∙ h (omega arith), up_to_gives (a + 1) n j (omega (arith, p.1.1)) (λ l. up_to_moves s j _ refl (omega (arith, p.1.1)) p.1.2 ∙ ap (λ k. k + 1) (h (omega arith)))))

up_to_yields : {s : RangeInclusive ℕ} (b : ℕ) → range_inclusive_start s ≡ 1 → range_inclusive_end s ≡ b → range_inclusive_exhausted s ≡ false → YieldsList up_to_steps (λ x. x) s (range_with_len 1 b)
up_to_yields {s} b p q e = record { runs = up_to_gives 1 b s (omega (arith, ap (range_inclusive_len (λ x y. y - x) (range_inclusive_start s) (range_inclusive_end s)) e)) (λ _. p) }

-- `(a..b).rev()` gives its numbers from the last
abbrev pub down_steps : Rev (Range ℕ) → Option ℕ → Rev (Range ℕ) → Type 0
down_steps = rev_steps (range_steps_back (λ x y. y - x) (λ x y. y ≡ x + 1))

unfoldable down : ℕ → ℕ → List ℕ
down a zero = []
down a (suc n) = (n + a) ∷ down a n

down_gives : (a n : ℕ) (s : Rev (Range ℕ)) → (rev_source s).start ≡ a → (rev_source s).end - a ≡ n → AlwaysYields down_steps (λ x. x) s (down a n)
unfolding down
down_gives a zero s p q = λ x j g. omega (arith, g.1.0, p, q)
down_gives a (suc n) s p q = (λ j g. omega (arith, g.1.0, p, q), λ x j g. (let e : (rev_source j).end ≡ n + a = omega (arith, g.1.2, p, q) in g.1.1 ∙ e, down_gives a n j (g.0 ∙ p) (omega (arith, g.1.2, p, q))))

down_yields : (a n k : ℕ) (s : Rev (Range ℕ)) → rev_source s ≡ record { start = a; end = n } → n - a ≡ k → YieldsList down_steps (λ x. x) s (down a k)
down_yields a n k s e h = record { runs = down_gives a k s (ap (λ (x : Range ℕ). x.start) e) (ap (λ (x : Range ℕ). x.end - a) e ∙ h) }

every_down : (f : ℕ → Bool) (a n : ℕ) → list_all f (down a n) ≡ every n (λ i. f (i + a))
unfolding down every pick
every_down f a zero = refl
every_down f a (suc n) = rw (every_down f a n) (first (f (n + a)) (every n (λ i. f (i + a))))
  where
    first : (b rest : Bool) → (b && rest) ≡ pick b rest false
    first true rest = refl
    first false rest = refl

-- what `all` ensures of its answer r: it tests the items that come from s, by the closure c, up to the first that fails
abbrev pub RunsAll : {S C : Type 0} → (S → Option ℕ → S → Type 0) → Mut C (ℕ × Unit {0}) Bool → S → S → C → Bool → Type 0
RunsAll {S} {C} steps m s u c r = (xs : List ℕ) × (o : Option ℕ) × (j : C) × YieldsThen steps s xs o u × FoldsTo (λ p x q. Called m p (x, tt) true q) c xs j × MatchOption o (r ≡ true) (λ x. (r ≡ false) × ((h : C) × Called m j (x, tt) false h))

-- the closure computes f
abbrev pub Computes : {C : Type 0} → Mut C (ℕ × Unit {0}) Bool → C → (ℕ → Bool) → Type 0
Computes {C} m c f = (x : ℕ) (b : Bool) (q : C) → Called m c (x, tt) b q → (q ≡ c) × (b ≡ f x)

-- tests that agree below n
pub every_same : (f g : ℕ → Bool) (n : ℕ) → ((k : ℕ) → k < n → f k ≡ g k) → every n f ≡ every n g
unfolding every
every_same f g zero h = refl
every_same f g (suc n) h = rw (every_same f g n (λ k l. h k (omega arith)), h n (omega arith)) refl

module _ (f : ℕ → Bool) {C : Type 0} {m : Mut C (ℕ × Unit {0}) Bool} {c : C} {r : Bool} where
  -- over `0..n`
  pub every_below : {n : ℕ} {u : Range ℕ} → RunsAll nat_range_steps m (record { start = 0; end = n }) u c r → Computes m c f → r ≡ every n f
  every_below {n} {u} ran computes = simp (sub-zero, add-zero) at (all_from_yields_List f u c r ran (YieldsList-from_range 0 n _ refl refl) computes ∙ every_range f 0 _)

  -- over `1..n`
  pub every_from_one : {n : ℕ} {u : Range ℕ} → RunsAll nat_range_steps m (record { start = 1; end = n }) u c r → Computes m c f → r ≡ every (n - 1) (λ i. f (suc i))
  every_from_one {n} {u} ran computes = simp add-one at (all_from_yields_List f u c r ran (YieldsList-from_range 1 n _ refl refl) computes ∙ every_range f 1 _)

  -- over `(0..n).rev()`
  pub every_down_below : {n : ℕ} {s u : Rev (Range ℕ)} → RunsAll down_steps m s u c r → rev_source s ≡ record { start = 0; end = n } → Computes m c f → r ≡ every n f
  every_down_below {n} {s} {u} ran e computes = simp (sub-zero, add-zero) at (all_from_yields_List f u c r ran (down_yields 0 n (n - 0) s e refl) computes ∙ every_down f 0 (n - 0))

  -- over `(1..n).rev()`
  pub every_down_from_one : {n : ℕ} {s u : Rev (Range ℕ)} → RunsAll down_steps m s u c r → rev_source s ≡ record { start = 1; end = n } → Computes m c f → r ≡ every (n - 1) (λ i. f (suc i))
  every_down_from_one {n} {s} {u} ran e computes = simp add-one at (all_from_yields_List f u c r ran (down_yields 1 n (n - 1) s e refl) computes ∙ every_down f 1 (n - 1))

  -- over `1..=n`
  pub every_up_to : {n : ℕ} {s u : RangeInclusive ℕ} → RunsAll up_to_steps m s u c r → range_inclusive_start s ≡ 1 → range_inclusive_end s ≡ n → range_inclusive_exhausted s ≡ false → Computes m c f → r ≡ every n (λ i. f (suc i))
  every_up_to {n} {s} {u} ran p q e computes = simp add-one at (all_from_yields_List f u c r ran (up_to_yields n p q e) computes ∙ every_range f 1 n)

-- ---- a loop with k numbers left to test, of which `every` says what it says of all of them

every_fails : (f : ℕ → Bool) (k : ℕ) → 0 < k → f (k - 1) ≡ false → every k f ≡ false
unfolding every pick
every_fails f zero h e = absurd (omega arith)
every_fails f (suc k) h e = let p : suc k - 1 ≡ k = omega arith in simp (rw p at e)

every_less : (f : ℕ → Bool) (k : ℕ) → 0 < k → f (k - 1) ≡ true → every k f ≡ every (k - 1) f
unfolding every pick
every_less f zero h e = absurd (omega arith)
every_less f (suc k) h e = let p : suc k - 1 ≡ k = omega arith in simp (rw p at e, p)

every_none : (f : ℕ → Bool) (k : ℕ) → k ≤ 0 → every k f ≡ true
unfolding every
every_none f zero h = refl
every_none f (suc k) h = absurd (omega arith)

module _ (f : ℕ → Bool) (k : ℕ) {whole : Bool} (inv : every k f ≡ whole) where
  -- the test r of the next number fails: so does the whole
  pub stops : {r : Bool} → 0 < k → r ≡ f (k - 1) → not r ≡ true → false ≡ whole
  stops {r} h e t = sym (every_fails f k h (sym e ∙ not-true r t)) ∙ inv

  -- it passes: one less is left
  pub goes_on : {r : Bool} → 0 < k → r ≡ f (k - 1) → not r ≡ false → every (k - 1) f ≡ whole
  goes_on {r} h e t = sym (every_less f k h (sym e ∙ not-false r t)) ∙ inv

  -- none is left: all passed
  pub ends : k ≤ 0 → true ≡ whole
  ends h = sym (every_none f k h) ∙ inv

-- the same, of a list numbered from 1
module _ (f : ℕ → Bool) (k : ℕ) {whole : Bool} (inv : every k (λ i. f (suc i)) ≡ whole) where
  last : 0 < k → f k ≡ f (suc (k - 1))
  last h = let e : suc (k - 1) ≡ k = omega arith in rw e

  pub stops_from_one : {r : Bool} → 0 < k → r ≡ f k → not r ≡ true → false ≡ whole
  stops_from_one h e t = stops (λ i. f (suc i)) k inv h (e ∙ last h) t

  pub goes_on_from_one : {r : Bool} → 0 < k → r ≡ f k → not r ≡ false → every (k - 1) (λ i. f (suc i)) ≡ whole
  goes_on_from_one h e t = goes_on (λ i. f (suc i)) k inv h (e ∙ last h) t

-- ---- tests joined from left to right, as code joins them by `&`

unfoldable pub joined : Bool → List Bool → Bool
joined a [] = a
joined a (b ∷ bs) = joined (a && b) bs

pub all-joined : (a : Bool) (bs : List Bool) → all (a ∷ bs) ≡ joined a bs
unfolding all joined pick
all-joined true [] = refl
all-joined false [] = refl
all-joined true (b ∷ bs) = all-joined b bs
all-joined false (b ∷ bs) = all-joined false bs
