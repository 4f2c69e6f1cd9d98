-- Lists of numbers: what stands in one, and that nothing stands in it twice.
use Rattle.std.specs.Prelude.{◌≡◌, ◌⊎◌, List, [], ◌∷◌, ℕ}

abbrev pub Mem : ℕ → List ℕ → Type 0
Mem n [] = ⊥
Mem n (x ∷ xs) = (n ≡ x) ⊎ Mem n xs

abbrev pub Distinct : List ℕ → Type 0
Distinct [] = Unit {0}
Distinct (x ∷ xs) = (Mem x xs → ⊥) × Distinct xs

-- all of a list meets Q
abbrev pub All : (ℕ → Type 0) → List ℕ → Type 0
All Q xs = (n : ℕ) → Mem n xs → Q n
