-- A test that computes and the proposition that it decides, both ways, once for each connective.
use Rattle.std.specs.Prelude.{◌≡◌, refl, ◌⊎◌, List, [], ◌∷◌, Bool, true, false, ◌&&◌, ◌||◌, ℕ, zero, suc, ◌≤◌, ◌<◌, eqb, ltb, leb}
use Rattle.std.proofs.Common.{inl, inr, arith, ltb-true, leb-true, eqb-true, lt-ltb, le-leb, eq-eqb}
use Rattle.std.proofs.lemmas.Bool.{false≢true}
use Rattle.std.proofs.Math.Decide.{dec_le}
use Rattle.laws.specs.Choice.{pick}

-- the test b says A
pub record Says (b : Bool) (A : Type 0) : Type 0 where
  pub out : b ≡ true → A
  pub back : A → b ≡ true

pub says_lt : (m n : ℕ) → Says (ltb m n) (m < n)
says_lt m n = record { out = ltb-true m n; back = lt-ltb m n }

pub says_le : (m n : ℕ) → Says (leb m n) (m ≤ n)
says_le m n = record { out = leb-true m n; back = le-leb m n }

pub says_eq : (m n : ℕ) → Says (eqb m n) (m ≡ n)
says_eq m n = record { out = eqb-true m n; back = eq-eqb m n }

pub says_and : {a b : Bool} {A B : Type 0} → Says a A → Says b B → Says (a && b) (A × B)
says_and {a} {b} x y = record { out = apart a b x.out y.out; back = λ h. joined a b (x.back h.0) (y.back h.1) }
  where
    apart : {A B : Type 0} (a b : Bool) → (a ≡ true → A) → (b ≡ true → B) → (a && b) ≡ true → A × B
    apart true true f g e = (f refl, g refl)
    apart true false f g e = absurd (false≢true e)
    apart false b f g e = absurd (false≢true e)

    joined : (a b : Bool) → a ≡ true → b ≡ true → (a && b) ≡ true
    joined true b p q = q
    joined false b p q = p

pub says_or : {a b : Bool} {A B : Type 0} → Says a A → Says b B → Says (a || b) (A ⊎ B)
says_or {a} {b} x y = record { out = apart a b x.out y.out; back = elim [ inl h ↦ left a b (x.back h) | inr h ↦ right a b (y.back h) ] }
  where
    apart : {A B : Type 0} (a b : Bool) → (a ≡ true → A) → (b ≡ true → B) → (a || b) ≡ true → A ⊎ B
    apart true b f g e = inl (f refl)
    apart false true f g e = inr (g refl)
    apart false false f g e = absurd (false≢true e)

    left : (a b : Bool) → a ≡ true → (a || b) ≡ true
    left true b p = refl
    left false true p = refl
    left false false p = p

    right : (a b : Bool) → b ≡ true → (a || b) ≡ true
    right true b p = refl
    right false true p = refl
    right false false p = p

-- one test chooses which other test counts
pub says-pick : {c a b : Bool} {C A B : Type 0} → Says c C → Says a A → Says b B → Says (pick c a b) ((C → A) × ((C → ⊥) → B))
unfolding pick
says-pick {c} {a} {b} s x y = record { out = apart c a b s.back s.out x.out y.out; back = joined c a b s.out s.back x.back y.back }
  where
    apart : {C A B : Type 0} (c a b : Bool) → (C → c ≡ true) → (c ≡ true → C) → (a ≡ true → A) → (b ≡ true → B) → pick c a b ≡ true → (C → A) × ((C → ⊥) → B)
    apart true a b i o f g e = (λ _. f e, λ n. absurd (n (o refl)))
    apart false a b i o f g e = (λ h. absurd (false≢true (i h)), λ _. g e)

    joined : {C A B : Type 0} (c a b : Bool) → (c ≡ true → C) → (C → c ≡ true) → (A → a ≡ true) → (B → b ≡ true) → (C → A) × ((C → ⊥) → B) → pick c a b ≡ true
    joined true a b o i f g h = f (h.0 (o refl))
    joined false a b o i f g h = g (h.1 (λ k. false≢true (i k)))

-- the same test, said otherwise
pub says_as : {b : Bool} {A B : Type 0} → Says b A → (A → B) → (B → A) → Says b B
says_as s there here = record { out = λ e. there (s.out e); back = λ h. s.back (here h) }

-- a test that always passes, and one that is its own meaning
pub says_yes : Says true (Unit {0})
says_yes = record { out = λ e. tt; back = λ h. refl }

pub says_itself : (b : Bool) → Says b (b ≡ true)
says_itself b = record { out = λ e. e; back = λ e. e }

-- ---- many tests

-- every test of a list
unfoldable pub all : List Bool → Bool
all [] = true
all (b ∷ bs) = pick b (all bs) false

-- every number below n
unfoldable pub every : ℕ → (ℕ → Bool) → Bool
every zero f = true
every (suc n) f = let rest = every n f in pick (f n) rest false

pub says_none : Says (all []) (Unit {0})
unfolding all
says_none = record { out = λ e. tt; back = λ h. refl }

pub says_more : {b : Bool} {A B : Type 0} (bs : List Bool) → Says b A → Says (all bs) B → Says (all (b ∷ bs)) (A × B)
unfolding all pick
says_more {b} bs x y = record { out = apart b (all bs) x.out y.out; back = λ h. joined b (all bs) (x.back h.0) (y.back h.1) }
  where
    apart : {A B : Type 0} (a b : Bool) → (a ≡ true → A) → (b ≡ true → B) → pick a b false ≡ true → A × B
    apart true b f g e = (f refl, g e)
    apart false b f g e = absurd (false≢true e)

    joined : (a b : Bool) → a ≡ true → b ≡ true → pick a b false ≡ true
    joined true b p q = q
    joined false b p q = p

pub says-every : (n : ℕ) (f : ℕ → Bool) (A : ℕ → Type 0) → ((k : ℕ) → Says (f k) (A k)) → Says (every n f) ((k : ℕ) → k < n → A k)
unfolding every pick
says-every zero f A s = record { out = λ e k h. absurd (omega arith); back = λ h. refl }
says-every (suc n) f A s = record { out = λ e. apart (f n) (every n f) (s n).out (says-every n f A s).out e; back = λ h. joined (f n) (every n f) ((s n).back (h n (omega arith))) ((says-every n f A s).back (λ k l. h k (omega arith))) }
  where
    apart : (a b : Bool) → (a ≡ true → A n) → (b ≡ true → (k : ℕ) → k < n → A k) → pick a b false ≡ true → (k : ℕ) → k < suc n → A k
    apart true b p q e k h = elim (dec_le (suc k) n) [ yes l ↦ q e k l | no l ↦ let same : k ≡ n = omega arith in rw same (p refl) ]
    apart false b p q e k h = absurd (false≢true e)

    joined : (a b : Bool) → a ≡ true → b ≡ true → pick a b false ≡ true
    joined true b p q = q
    joined false b p q = p
