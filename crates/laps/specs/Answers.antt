-- An answer can be had back from what it tells.
use Rattle.std.specs.Prelude.{◌≡◌, refl, Result, Ok, Err}
use Rattle.laps.specs.declared.OutOfRange.{OutOfRange}
use Rattle.laps.specs.Laps.{Told, refused, gives, told}

pub back : {A : Type 0} → Told A → Result A OutOfRange
back (refused n) = Err (record {})
back (gives x) = Ok x

pub comes_back : {A : Type 0} (r : Result A OutOfRange) → back (told r) ≡ r
unfolding back told
comes_back (Ok x) = refl
comes_back (Err e) = refl
