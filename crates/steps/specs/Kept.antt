-- What it says that a refusal leaves all as before; that every turn, every start and fresh tables are so is proved in proofs/Kept.antt.
use Rattle.std.specs.Prelude.{◌≡◌, Bool, true, false, None, Some, Ok, Err}
use Rattle.shapes.specs.declared.Refusal.{Refusal}
use Rattle.shapes.specs.Outcomes.{Outcome}
use Rattle.tables.specs.World.{World}
use Rattle.tables.specs.Fresh.{Left, refused}

unfoldable pub is_refused : Outcome → Bool
is_refused (Ok None) = false
is_refused (Ok (Some a)) = false
is_refused (Err r) = true

-- what comes to a refusal leaves s
abbrev pub Keeps : World → Left → Type 0
Keeps s d = (r : Refusal) → d.outcome ≡ Err r → d ≡ refused s r
