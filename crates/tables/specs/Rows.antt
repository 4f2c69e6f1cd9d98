-- A table in one flat list of words: field f of row n stands at n × width + f. Reading past the end gives 0, writing there
-- changes nothing. The laws are over width, row and field, so that nobody above counts places in a list.
use Rattle.std.specs.Prelude.{◌≡◌, refl, ◌≢◌, List, [], ◌∷◌, length, get_or, set}
use Rattle.std.proofs.Common.{◌∙◌, add-suc, suc-add, add-zero}
use Prim.Native.Nat.{ℕ, zero, suc, ◌+◌, ◌*◌, ◌≤◌, ◌<◌}
use Rattle.std.proofs.Math.Nat.{mul-le-mul_right}
use native.Mathlib.Omega.{arith}
use Rattle.std.proofs.Math.Decide.{dec_le}
use Rattle.std.proofs.Math.ListN.{length-set}
use Rattle.std.proofs.lemmas.List.Edits.{sets}
use Rattle.std.proofs.Math.Seq.{length-sets, get_or-set_same, get_or-set_other}

unfoldable pub word : ℕ → List ℕ → ℕ → ℕ → ℕ
word width t n f = get_or t (n * width + f) 0

unfoldable pub put_word : ℕ → List ℕ → ℕ → ℕ → ℕ → List ℕ
put_word width t n f v = set t (n * width + f) v

-- a whole row
unfoldable pub put_row : ℕ → List ℕ → ℕ → List ℕ → List ℕ
put_row width t n row = sets t (n * width) row

-- the table has at least so many rows
unfoldable pub HasRows : ℕ → List ℕ → ℕ → Type 0
HasRows width t rows = rows * width ≤ length t

-- ---- a row ends before the next begins

row_ends : (width n k f : ℕ) → n < k → f < width → n * width + f < k * width
row_ends width n k f h g = let le : suc n * width ≤ k * width = mul-le-mul_right width h in omega (arith, le)

pub place_other : (width n k f g : ℕ) → f < width → g < width → k ≢ n → k * width + g ≢ n * width + f
place_other width n k f g hf hg ne e = elim (dec_le (suc n) k) [
  | yes l ↦ let a : n * width + f < k * width = row_ends width n k f l hf in omega arith
  | no l ↦ let b : k * width + g < n * width = row_ends width k n g (omega arith) hg in omega arith
]

-- ---- one word

module _ (width : ℕ) (t : List ℕ) where
  pub rows-put : (n f v rows : ℕ) → HasRows width t rows → HasRows width (put_word width t n f v) rows
  unfolding HasRows put_word
  rows-put n f v rows h = rw length-set h

  pub word-put_same : (n f v rows : ℕ) → HasRows width t rows → n < rows → f < width → word width (put_word width t n f v) n f ≡ v
  unfolding word put_word HasRows
  word-put_same n f v rows r h g = let fits : n * width + f < rows * width = row_ends width n rows f h g in get_or-set_same t (n * width + f) v 0 (omega arith)

  pub word-put-row : (n f v k g : ℕ) → f < width → g < width → k ≢ n → word width (put_word width t n f v) k g ≡ word width t k g
  unfolding word put_word
  word-put-row n f v k g hf hg ne = get_or-set_other t (n * width + f) (k * width + g) v 0 (place_other width n k f g hf hg ne)

  pub word-put_field : (n f v k g : ℕ) → f < width → g < width → g ≢ f → word width (put_word width t n f v) k g ≡ word width t k g
  unfolding word put_word
  word-put_field n f v k g hf hg ne = get_or-set_other t (n * width + f) (k * width + g) v 0 (other (dec_le k n) (dec_le n k))
    where
      other : Dec (k ≤ n) → Dec (n ≤ k) → k * width + g ≢ n * width + f
      other (yes a) (yes b) = let same : k ≡ n = omega arith in rw same (λ e. ne (omega arith))
      other (yes a) (no b) = place_other width n k f g hf hg (λ e. b (omega arith))
      other (no a) b = place_other width n k f g hf hg (λ e. a (omega arith))

-- ---- a whole row

get_d_sets_before : (vs t : List ℕ) (i j : ℕ) → j < i → get_or (sets t i vs) j 0 ≡ get_or t j 0
get_d_sets_before [] t i j h = refl
get_d_sets_before (v ∷ vs) t i j h = get_d_sets_before vs (set t i v) (suc i) j (omega arith) ∙ get_or-set_other t i j v 0 (omega arith)

get_or-sets_behind : (vs t : List ℕ) (i j : ℕ) → i + length vs ≤ j → get_or (sets t i vs) j 0 ≡ get_or t j 0
get_or-sets_behind [] t i j h = refl
get_or-sets_behind (v ∷ vs) t i j h = get_or-sets_behind vs (set t i v) (suc i) j (omega arith) ∙ get_or-set_other t i j v 0 (omega arith)

get_or-sets_in : (vs t : List ℕ) (i j : ℕ) → i + length vs ≤ length t → j < length vs → get_or (sets t i vs) (i + j) 0 ≡ get_or vs j 0
get_or-sets_in [] t i j h k = absurd (omega arith)
get_or-sets_in (v ∷ vs) t i zero h k = rw add-zero (get_d_sets_before vs (set t i v) (suc i) i (omega arith) ∙ get_or-set_same t i v 0 (omega arith))
get_or-sets_in (v ∷ vs) t i (suc j) h k = rw (add-suc i j, ← suc-add i j) (get_or-sets_in vs (set t i v) (suc i) j (rw length-set (omega arith)) (omega arith))

module _ (width : ℕ) (t : List ℕ) (row : List ℕ) where
  pub rows-put_row : (n rows : ℕ) → HasRows width t rows → HasRows width (put_row width t n row) rows
  unfolding HasRows put_row
  rows-put_row n rows h = rw length-sets h

  pub word-put_row_same : (n g rows : ℕ) → length row ≡ width → HasRows width t rows → n < rows → g < width → word width (put_row width t n row) n g ≡ get_or row g 0
  unfolding word put_row HasRows
  word-put_row_same n g rows e r h k =
      let le : suc n * width ≤ rows * width = mul-le-mul_right width h in
      get_or-sets_in row t (n * width) g (omega (arith, le)) (omega arith)

  pub word-put_row_other : (n k g : ℕ) → length row ≡ width → g < width → k ≢ n → word width (put_row width t n row) k g ≡ word width t k g
  unfolding word put_row
  word-put_row_other n k g e h ne = elim (dec_le (suc n) k) [
    | yes l ↦ let le : suc n * width ≤ k * width = mul-le-mul_right width l in get_or-sets_behind row t (n * width) (k * width + g) (omega (arith, le))
    | no l ↦ let b : k * width + g < n * width = row_ends width k n g (omega arith) h in get_d_sets_before row t (n * width) (k * width + g) b
  ]
