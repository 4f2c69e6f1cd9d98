-- The spelling of a number: group by group, how long it is, and that more room than it needs changes nothing. Over any number of groups.
use Rattle.std.specs.Prelude.{◌≡◌, refl, List, [], ◌∷◌, ℕ, zero, suc, ◌+◌, ◌*◌, ◌-◌, ◌/◌, ◌%◌, ◌^◌, ◌≤◌, ◌<◌, ltb, length}
use Rattle.std.proofs.Common.{sym, ap, ◌∙◌, pow-suc, arith, pow-add, pow_mono, ltb-true, ltb-false, lt-ltb, le-ltb}
use Rattle.std.proofs.Math.Nat.{one-le-pow}
use Rattle.laws.specs.Choice.{fork, pick_true, pick_false}
use Rattle.laws.specs.Parts.{Below, below_none, below_cons}
use Rattle.groups.specs.Format.{group, spelling, most_groups, spelled, bits, groups_of}

-- ---- group by group

pub one-group : (k n : ℕ) → n < group → spelling (suc k) n ≡ n ∷ []
unfolding spelling
one-group k n h = pick_true _ _ _ (lt-ltb n group h)

pub more_groups : (k n : ℕ) → group ≤ n → spelling (suc k) n ≡ (group + n % group) ∷ spelling k (n / group)
unfolding spelling
more_groups k n h = pick_false _ _ _ (le-ltb n group h)

-- what holds of a number of one group, and of one of more groups, holds of every number
pub each_spelling {κ} : (Q : List ℕ → Type κ) (k n : ℕ) → (n < group → Q (n ∷ [])) → (group ≤ n → Q ((group + n % group) ∷ spelling k (n / group))) → Q (spelling (suc k) n)
unfolding spelling
each_spelling Q k n one more = fork Q (ltb n group) (λ e. one (ltb-true n group e)) (λ e. more (ltb-false n group e))

-- one group less is one power less
pub power_above : (j n : ℕ) → group ^ suc j ≤ n → group ^ j ≤ n / group
power_above j n h = omega (arith, pow-suc group j)

pub power_below : (j n : ℕ) → n < group ^ suc j → n / group < group ^ j
power_below j n h = omega (arith, pow-suc group j)

-- ---- how long

pub at_least_one : (k n : ℕ) → 1 ≤ length (spelling (suc k) n)
at_least_one k n = each_spelling (λ l. 1 ≤ length l) k n (λ h. omega arith) (λ h. omega arith)

pub at_most : (k n : ℕ) → length (spelling k n) ≤ k
unfolding spelling
at_most zero n = omega arith
at_most (suc k) n = each_spelling (λ l. length l ≤ suc k) k n (λ h. omega arith) (λ h. omega (arith, at_most k (n / group)))

-- below a power of 128, no more groups than it says
pub short : (k j n : ℕ) → n < group ^ suc j → length (spelling k n) ≤ suc j
unfolding spelling
short zero j n h = omega arith
short (suc k) zero n h = each_spelling (λ l. length l ≤ 1) k n (λ l. omega arith) (λ l. absurd (omega arith))
short (suc k) (suc j) n h = each_spelling (λ l. length l ≤ suc (suc j)) k n (λ l. omega arith) (λ l. omega (arith, short k j (n / group) (power_below (suc j) n h)))

-- from a power of 128 on, more groups than it says
pub long : (k j n : ℕ) → j < k → group ^ j ≤ n → j < length (spelling k n)
unfolding spelling
long zero j n room h = absurd (omega arith)
long (suc k) zero n room h = at_least_one k n
long (suc k) (suc j) n room h = each_spelling (λ l. suc j < length l) k n (λ l. absurd (omega (arith, pow-suc group j, one-le-pow j group (omega arith)))) (λ l. omega (arith, long k j (n / group) (omega arith) (power_above j n h)))

-- room that is not needed changes nothing
pub any-room : (k j n : ℕ) → n < group ^ suc k → n < group ^ suc j → spelling (suc k) n ≡ spelling (suc j) n
any-room zero zero n hk hj = refl
any-room zero (suc j) n hk hj = let h : n < group = omega arith in one-group zero n h ∙ sym (one-group (suc j) n h)
any-room (suc k) zero n hk hj = let h : n < group = omega arith in one-group (suc k) n h ∙ sym (one-group zero n h)
any-room (suc k) (suc j) n hk hj = each_spelling (λ l. l ≡ spelling (suc (suc j)) n) (suc k) n (λ h. sym (one-group (suc j) n h)) (λ h. ap (λ l. (group + n % group) ∷ l) (any-room k j (n / group) (power_below (suc k) n hk) (power_below (suc j) n hj)) ∙ sym (more_groups (suc j) n h))

-- every group is a byte
pub groups_are_bytes : (k n : ℕ) → Below 256 (spelling k n)
unfolding spelling
groups_are_bytes zero n = below_none 256
groups_are_bytes (suc k) n = each_spelling (Below 256) k n (λ h. below_cons 256 n [] (omega arith) (below_none 256)) (λ h. below_cons 256 (group + n % group) (spelling k (n / group)) (omega arith) (groups_are_bytes k (n / group)))

-- ---- at a width in bits

pub seven_bits : (k : ℕ) → group ^ k ≡ 2 ^ (k * 7)
seven_bits zero = refl
seven_bits (suc k) = let e : suc k * 7 ≡ k * 7 + 7 = omega arith in rw (e, pow-add 2 (k * 7) 7, pow-suc group k, seven_bits k)

-- as many groups as a width takes have room for all its numbers
pub room_of_width : (width : ℕ) → 2 ^ width ≤ group ^ most_groups width
unfolding most_groups
room_of_width width = rw (seven_bits (most_groups width)) (pow_mono (omega arith))

-- a number of that width, group by group
pub spelled-one : (width n : ℕ) → n < group → spelled width n ≡ n ∷ []
unfolding spelled most_groups
spelled-one width n h = one-group ((width - 1) / 7) n h

pub spelled_more : (width n : ℕ) → n < 2 ^ width → group ≤ n → spelled width n ≡ (group + n % group) ∷ spelled width (n / group)
unfolding spelled most_groups
spelled_more width n fits h = more_groups k n h ∙ ap (λ l. (group + n % group) ∷ l) (less k (n / group) (power_below k n room) (omega arith))
  where
    k : ℕ
    k = (width - 1) / 7

    room : n < group ^ suc k
    room = omega (arith, room_of_width width)

    less : (k m : ℕ) → m < group ^ k → 1 ≤ m → spelling k m ≡ spelling (suc k) m
    less zero m h some = absurd (omega arith)
    less (suc k) m h some = any-room k (suc k) m h (omega (arith, pow-suc group (suc k)))

-- its length, between two powers of 128
pub spelled-length : (width j n : ℕ) → j < most_groups width → group ^ j ≤ n → n < group ^ suc j → length (spelled width n) ≡ suc j
unfolding spelled
spelled-length width j n room low high = omega (arith, short (most_groups width) j n high, long (most_groups width) j n room low)

pub spelled_some : (width n : ℕ) → 1 ≤ length (spelled width n)
unfolding spelled most_groups
spelled_some width n = at_least_one ((width - 1) / 7) n

pub spelled_most : (width n : ℕ) → length (spelled width n) ≤ most_groups width
unfolding spelled
spelled_most width n = at_most (most_groups width) n

-- 32 bits: one group to five
pub one_to_five : (n : ℕ) → (1 ≤ length (groups_of n)) × (length (groups_of n) ≤ 5)
unfolding most_groups
one_to_five n = (spelled_some bits n, spelled_most bits n)
