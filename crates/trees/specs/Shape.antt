-- Finite shapes of node numbers, in which no number stands twice.
use Rattle.std.specs.Prelude.{◌≡◌, ◌⊎◌, ℕ}

-- a tree is a tip, or a node with what hangs on its left and on its right; none and both make shapes of several trees
pub data Shape : Type 0 where
  none : Shape
  both : Shape → Shape → Shape
  tip : ℕ → Shape
  node : ℕ → Shape → Shape → Shape

abbrev pub In : ℕ → Shape → Type 0
In n none = ⊥
In n (both s t) = In n s ⊎ In n t
In n (tip v) = n ≡ v
In n (node v s t) = (n ≡ v) ⊎ In n s ⊎ In n t

abbrev pub Apart : Shape → Shape → Type 0
Apart s t = (n : ℕ) → In n s → In n t → ⊥

-- no number stands twice
abbrev pub Once : Shape → Type 0
Once none = Unit {0}
Once (both s t) = Once s × Once t × Apart s t
Once (tip v) = Unit {0}
Once (node v s t) = Once s × Once t × Apart s t × (In v s → ⊥) × (In v t → ⊥)

-- none of these numbers stands there
abbrev pub Free : (ℕ → Type 0) → Shape → Type 0
Free New s = (n : ℕ) → New n → In n s → ⊥
