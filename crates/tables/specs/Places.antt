-- The place of a field fits 64 bits, whatever the row, the width and the field; a row grows word by word.
use Rattle.std.specs.Prelude.{◌≡◌, List, [], ◌∷◌, ℕ, zero, suc, ◌+◌, ◌*◌, ◌≤◌, ◌<◌, length, get_or, set, take}
use Rattle.std.proofs.Common.{mul-le-mul, add-suc, suc-add, add-zero, add-one, arith}
use Rattle.std.proofs.lemmas.List.Edits.{sets}

pub row_fits : (n width : ℕ) → n < 4294967296 → width < 4294967296 → n * width ≤ 4294967295 * 4294967295
row_fits n width h k =
    let a : n ≤ 4294967295 = omega arith in
    let b : width ≤ 4294967295 = omega arith in
    mul-le-mul a b

sets_suc : (l : List ℕ) (i : ℕ) (vs : List ℕ) (j : ℕ) → j < length vs → set (sets l i (take j vs)) (i + j) (get_or vs j 0) ≡ sets l i (take (suc j) vs)
sets_suc l i [] j h = absurd (omega arith)
sets_suc l i (v ∷ vs) zero h = rw add-zero
sets_suc l i (v ∷ vs) (suc j) h = rw (add-suc i j, ← suc-add i j) (sets_suc (set l i v) (suc i) vs j (omega arith))

-- one word more of a row
pub sets_more : (l : List ℕ) (i : ℕ) (vs : List ℕ) (j : ℕ) → j < length vs → set (sets l i (take j vs)) (i + j) (get_or vs j 0) ≡ sets l i (take (j + 1) vs)
sets_more l i vs j h = rw (add-one j) (sets_suc l i vs j h)
