-- A list with one place changed, and the places of one worker's lists among those of all.
use Rattle.std.specs.Prelude.{ℕ, suc, ◌+◌, ◌*◌, ◌-◌, ◌≤◌, ◌<◌, ◌≡◌, refl, ◌≢◌, List, length, get_or, set, ℤ, Option, None, Some}
use Rattle.std.proofs.Common.{sym, ap, subst, arith, mul-le-mul_right, length-set, get_or-set_same, get_or-set_other}
use Rattle.std.proofs.Math.Decide.{dec_le, ℕ_discrete}
use Rattle.std.proofs.Math.Seq.{set_out}
use Rattle.shapes.specs.declared.Totals.{Totals}
use Rattle.shapes.specs.declared.PendingChange.{PendingChange}
use Rattle.shapes.specs.declared.PendingChange.TheVariants as pending
use Rattle.shapes.specs.declared.Key.{Key}
use Rattle.tables.specs.Rows.{place_other}
use Rattle.tables.specs.World.{spot}
use Rattle.steps.specs.Turn.{pushed, added}

-- element j of a list with element i set: the new one there, else the old one
pub at_set {ℓ} : {A : Type ℓ} (Q : A → Type 0) (l : List A) (i j : ℕ) (a d : A) → (j ≡ i → i < length l → Q a) → ((j ≡ i → length l ≤ i) → Q (get_or l j d)) → Q (get_or (set l i a) j d)
at_set Q l i j a d new old = elim (ℕ_discrete j i) [
  | yes e ↦ elim (dec_le (suc i) (length l)) [
    | yes m ↦ rw e (subst Q (sym (get_or-set_same l i a d m)) (new e m))
    | no m ↦ subst Q (ap (λ k. get_or k j d) (sym (set_out l i a (omega arith)))) (old (λ _. omega arith))
  ]
  | no e ↦ subst Q (sym (get_or-set_other l i j a d e)) (old (λ f. absurd (e f)))
]

pub length-pushed : (l : List ℕ) (i : ℕ) (c : PendingChange) → length (pushed l i c) ≡ length l
unfolding pushed
length-pushed l i pending.Keep = refl
length-pushed l i (pending.Push x) = length-set l i x.0
length-pushed l i pending.Pop = refl

pub length-added : (l : List ℤ) (i : ℕ) (c : Option Key) → length (added l i c) ≡ length l
unfolding added
length-added l i None = refl
length-added l i (Some k) = length-set l i _

-- a place of worker w's list lies within the lent list, and in no other worker's
pub spot-within : (t : Totals) (w i len : ℕ) → w < t.p → i < t.n → t.p * t.n ≤ len → spot t w i < len
unfolding spot
spot-within t w i len a b c = let rows : suc w * t.n ≤ t.p * t.n = mul-le-mul_right t.n a in omega (arith, rows)

pub spot_other : (t : Totals) (w u i j : ℕ) → i < t.n → j < t.n → u ≢ w → spot t u j ≢ spot t w i
unfolding spot
spot_other t w u i j a b ne = place_other t.n w u i j a b ne

pub spot_same : (t u : Totals) (w i : ℕ) → u.n ≡ t.n → spot u w i ≡ spot t w i
unfolding spot
spot_same t u w i e = ap (λ m. w * m + i) e
