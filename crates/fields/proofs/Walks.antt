-- How a walk along prev stops, goes on and ends, after k of n steps.
use Rattle.std.specs.Prelude.{Option, None, Some}
use Prim.Native.Nat.{ℕ, zero, suc, ◌+◌, ◌-◌, ◌<◌, ◌≤◌}
use native.Mathlib.Omega.{arith}
use mathlib.Core.Path.{◌≡◌, refl}
use mathlib.Core.List.{List}
use borrow.Author.Tests.{le-leb, lt-leb}
use Rattle.laws.specs.Choice.{pick}
use Rattle.shapes.specs.declared.NodeNo.{NodeNo}
use Rattle.shapes.specs.declared.Phase.{Phase}
use Rattle.tables.specs.Nodes.{phase_at, prev_at}
use Rattle.tables.specs.Versions.{walk_back}

module _ (ns : List ℕ) (seq : Phase) where
  one : (x : NodeNo) (m k : ℕ) → m ≡ suc k → seq.0 < (phase_at ns x).0 → walk_back m ns seq (Some x) ≡ walk_back k ns seq (prev_at ns x)
  unfolding walk_back pick
  one x m k e p = rw e (simp (lt-leb _ _ p))

  here : (x : NodeNo) (m k : ℕ) → m ≡ suc k → (phase_at ns x).0 ≤ seq.0 → walk_back m ns seq (Some x) ≡ Some x
  unfolding walk_back pick
  here x m k e p = rw e (simp (le-leb _ _ p))

  none : (m : Option NodeNo) (k : ℕ) → k ≡ 0 → walk_back k ns seq m ≡ None
  unfolding walk_back
  none m k e = rw e

  pub lost : (k : ℕ) → walk_back k ns seq None ≡ None
  unfolding walk_back
  lost zero = refl
  lost (suc k) = refl

  module _ (x : NodeNo) (n k : ℕ) where
    pub stops : k < n → (phase_at ns x).0 ≤ seq.0 → walk_back (n - k) ns seq (Some x) ≡ Some x
    stops h p = here x (n - k) (n - (k + 1)) (omega arith) p

    pub goes : k < n → seq.0 < (phase_at ns x).0 → walk_back (n - k) ns seq (Some x) ≡ walk_back (n - (k + 1)) ns seq (prev_at ns x)
    goes h p = one x (n - k) (n - (k + 1)) (omega arith) p

    pub over : n ≤ k → walk_back (n - k) ns seq (Some x) ≡ None
    over h = none (Some x) (n - k) (omega arith)
