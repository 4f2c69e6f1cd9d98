-- Reading a byte at a time: what the first byte decides, and what holds of every number that reads. Over any width and number of groups.
use Rattle.std.specs.Prelude.{◌≡◌, refl, List, [], ◌∷◌, ℕ, zero, suc, ◌+◌, ◌*◌, ◌-◌, ◌^◌, ◌≤◌, ◌<◌, ltb, eqb, length, get_or, take, drop, Ok, Err}
use Rattle.std.proofs.Common.{subst, arith, take_all, ltb-true, ltb-false, lt-ltb, le-ltb, eq-eqb, ne_eqb}
use Rattle.std.proofs.lemmas.Bool.{eqb-false}
use Rattle.laws.specs.Choice.{fork, pick_true, pick_false}
use Rattle.groups.specs.Format.{group, most_groups, held, joined, read_up_to, reading, Reading}
use Rattle.groups.specs.declared.Fault.{Fault}
use Rattle.groups.specs.declared.Fault.TheVariants.{CutShort, NotShortest, TooLong, TooLarge}

-- ---- what the first byte decides

pub holds : (width value taken : ℕ) → value < 2 ^ width → held width value taken ≡ Ok (value, taken)
unfolding held
holds width value taken h = pick_true _ _ _ (lt-ltb value (2 ^ width) h)

pub too_large : (width value taken : ℕ) → 2 ^ width ≤ value → held width value taken ≡ Err TooLarge
unfolding held
too_large width value taken h = pick_false _ _ _ (le-ltb value (2 ^ width) h)

pub reads_last : (width k byte : ℕ) (s : List ℕ) → byte < group → read_up_to width (suc k) (byte ∷ s) ≡ held width byte 1
unfolding read_up_to
reads_last width k byte s h = pick_true _ _ _ (lt-ltb byte group h)

pub reads_on : (width k byte : ℕ) (s : List ℕ) → group ≤ byte → read_up_to width (suc k) (byte ∷ s) ≡ joined width byte (read_up_to width k s)
unfolding read_up_to
reads_on width k byte s h = pick_false _ _ _ (le-ltb byte group h)

-- the same, of groups that are not counted out and bytes that are not written out
pub none_left : (width left : ℕ) (s : List ℕ) → left ≡ 0 → read_up_to width left s ≡ Err TooLong
unfolding read_up_to
none_left width left s e = rw e

pub front_none : (width left : ℕ) (s : List ℕ) → (left ≡ 0 → ⊥) → length s ≡ 0 → read_up_to width left s ≡ Err CutShort
unfolding read_up_to
front_none width zero s some none = absurd (some refl)
front_none width (suc k) [] some none = refl
front_none width (suc k) (byte ∷ s) some none = absurd (omega arith)

pub front_last : (width left : ℕ) (s : List ℕ) → (left ≡ 0 → ⊥) → (length s ≡ 0 → ⊥) → get_or s 0 0 < group → read_up_to width left s ≡ held width (get_or s 0 0) 1
front_last width zero s some there h = absurd (some refl)
front_last width (suc k) [] some there h = absurd (there refl)
front_last width (suc k) (byte ∷ s) some there h = reads_last width k byte s h

pub front_on : (width left : ℕ) (s : List ℕ) → (left ≡ 0 → ⊥) → (length s ≡ 0 → ⊥) → group ≤ get_or s 0 0 → read_up_to width left s ≡ joined width (get_or s 0 0) (read_up_to width (left - 1) (take (length s - 1) (drop 1 s)))
front_on width zero s some there h = absurd (some refl)
front_on width (suc k) [] some there h = absurd (there refl)
front_on width (suc k) (byte ∷ s) some there h =
    let less : suc k - 1 ≡ k = omega arith in
    rw (less, take_all (suc (length s) - 1) s (omega arith)) (reads_on width k byte s h)

-- what follows decides the rest
pub joins_none : (width byte above taken : ℕ) → above ≡ 0 → joined width byte (Ok (above, taken)) ≡ Err NotShortest
unfolding joined
joins_none width byte above taken e = pick_true _ _ _ (eq-eqb above 0 e)

pub joins : (width byte above taken : ℕ) → 1 ≤ above → joined width byte (Ok (above, taken)) ≡ held width (byte - group + group * above) (taken + 1)
unfolding joined
joins width byte above taken h = pick_false _ _ _ (ne_eqb above 0 (λ e. omega arith))

-- a fault is no number
pub no_number : {fault : Fault} {n taken : ℕ} → ◌≡◌ {A = Reading} (Err fault) (Ok (n, taken)) → ⊥
no_number e = cc

-- ---- what holds of every number that reads

-- a property of a number and of the bytes that it took; a fault has it
unfoldable OnNumber : (ℕ → ℕ → Type 0) → Reading → Type 0
OnNumber P (Ok (n, taken)) = P n taken
OnNumber P (Err fault) = Unit

-- a byte in front: a number of one group, or a group below a number that is not 0
pub each_reading : (P : ℕ → ℕ → Type 0) (width k byte : ℕ) (s : List ℕ)
    → (byte < group → byte < 2 ^ width → P byte 1)
    → ((above taken : ℕ) → read_up_to width k s ≡ Ok (above, taken) → group ≤ byte → 1 ≤ above → byte - group + group * above < 2 ^ width → P (byte - group + group * above) (taken + 1))
    → {n taken : ℕ} → read_up_to width (suc k) (byte ∷ s) ≡ Ok (n, taken) → P n taken
unfolding read_up_to joined held OnNumber
each_reading P width k byte s one more {n} {taken} e = subst (OnNumber P) e
    (fork (OnNumber P) (ltb byte group)
    (λ h. if_held byte 1 (one (ltb-true byte group h)))
    (λ h. after (ltb-false byte group h) (read_up_to width k s) refl))
  where
    if_held : (value taken : ℕ) → (value < 2 ^ width → P value taken) → OnNumber P (held width value taken)
    if_held value taken f = fork (OnNumber P) (ltb value (2 ^ width)) (λ h. f (ltb-true value (2 ^ width) h)) (λ h. tt)

    after : group ≤ byte → (r : Reading) → read_up_to width k s ≡ r → OnNumber P (joined width byte r)
    after h (Ok (above, taken)) e = fork (OnNumber P) (eqb above 0) (λ z. tt) (λ z. let some : 1 ≤ above = omega (arith, eqb-false above 0 z) in if_held (byte - group + group * above) (taken + 1) (more above taken e h some))
    after h (Err fault) e = tt

-- it fits the width, and took at least one byte, of those that were there and of the groups that were allowed
pub record Inside (width k : ℕ) (s : List ℕ) (n taken : ℕ) : Type 0 where
  pub fits : n < 2 ^ width
  pub some : 1 ≤ taken
  pub few : taken ≤ k
  pub there : taken ≤ length s

pub reads_inside : (width k : ℕ) (s : List ℕ) {n taken : ℕ} → read_up_to width k s ≡ Ok (n, taken) → Inside width k s n taken
unfolding read_up_to
reads_inside width zero s e = cc
reads_inside width (suc k) [] e = cc
reads_inside width (suc k) (byte ∷ s) e = each_reading (Inside width (suc k) (byte ∷ s)) width k byte s
    (λ h fits. record { fits = fits; some = omega arith; few = omega arith; there = omega arith })
    (λ above taken e h some fits. let before : Inside width k s above taken = reads_inside width k s e in
    record { fits = fits; some = omega arith; few = omega arith; there = omega arith })
    e

pub reading_inside : (width : ℕ) (s : List ℕ) {n taken : ℕ} → reading width s ≡ Ok (n, taken) → Inside width (most_groups width) s n taken
unfolding reading
reading_inside width s e = reads_inside width (most_groups width) s e

-- what a reading of groups is proved by
pub ruleset reads = (holds, too_large, none_left, front_none, front_last, front_on, joins_none, joins)
