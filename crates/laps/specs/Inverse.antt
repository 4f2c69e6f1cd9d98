-- A key that stands for one lap. That each key in range does, and that key and lap undo each other: proofs/Inverse.antt.
use Rattle.std.specs.Prelude.{◌≡◌, ℕ, ℤ}
use Rattle.laps.specs.declared.Lap.{Lap}
use Rattle.laps.specs.Laps.{gives, key_of_lap}

-- one lap has the key, and no other
pub record OneLap (key : ℤ) : Type 0 where
  pub lap : Lap
  pub has : key_of_lap lap.difference lap.entry ≡ gives key
  pub only : (d : ℤ) (e : ℕ) → key_of_lap d e ≡ gives key → (d ≡ lap.difference) × (e ≡ lap.entry)
