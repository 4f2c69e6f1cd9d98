-- Lists all of whose elements are small. Facts that the kit's lists leave out.
use Rattle.std.specs.Prelude.{List, [], ◌∷◌, ℕ, zero, suc, ◌<◌, length, get_or}
use Rattle.std.proofs.Common.{arith}

-- every element is below a bound: the bytes of a slice are below 256
unfoldable pub Below : ℕ → List ℕ → Type 0
Below bound l = (i : ℕ) → i < length l → get_or l i 0 < bound

pub below_head : (bound x : ℕ) (l : List ℕ) → Below bound (x ∷ l) → x < bound
unfolding Below
below_head bound x l h = h 0 (omega arith)

pub below_tail : (bound x : ℕ) (l : List ℕ) → Below bound (x ∷ l) → Below bound l
unfolding Below
below_tail bound x l h i k = h (suc i) (omega arith)

pub below_none : (bound : ℕ) → Below bound []
unfolding Below
below_none bound i h = absurd (omega arith)

pub below_cons : (bound x : ℕ) (l : List ℕ) → x < bound → Below bound l → Below bound (x ∷ l)
unfolding Below
below_cons bound x l here rest zero k = here
below_cons bound x l here rest (suc i) k = rest i (omega arith)
