-- The dummy's words but its state are 0.
use mathlib.Core.Path.{◌≡◌, refl}
use Prim.Native.Nat.{ℕ, zero, suc}
use lib.ListN.{get_or, replicate}
use Rattle.tables.specs.Records.{record_row, entry_row, aborted, unfilled}

zeros : (k f : ℕ) → ◌≡◌ {A = ℕ} (get_or (replicate k 0) f 0) 0
zeros zero f = refl
zeros (suc k) zero = refl
zeros (suc k) (suc f) = zeros k f

pub dummy_else : (f : ℕ) → (f ≡ 1 → ⊥) → get_or (record_row aborted unfilled) f 0 ≡ 0
unfolding record_row entry_row
dummy_else zero h = refl
dummy_else (suc zero) h = absurd (h refl)
dummy_else (suc (suc f)) h = zeros 20 f
