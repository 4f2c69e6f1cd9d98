-- What the listing's code leaves, as the definitions of `listing` have it.
use Rattle.std.specs.Prelude.{Option, None, Some, Result, Ok, Err, ℕ, ◌+◌, List, length, ℤ}
use Rattle.std.proofs.lemmas.List.Edits.{sets}
use Rattle.listing.specs.Listing.{Walked, crooked, walked, Listed, listed, refused}
use Rattle.shapes.specs.declared.Refusal.{Refusal}
use Rattle.lister.specs.declared.walk.Reached.{Reached}

-- an answer with the list at exit
unfoldable pub left : Result ℕ Refusal → List ℤ → Listed
left (Ok n) l = listed n l
left (Err why) l = refused why l

-- where a part of the walk leaves the code; what stands in the list of a crooked one is left open
pub data Stands : Type 0 where
  lost : Stands
  stands : ℕ → ℕ → List ℤ → Stands

unfoldable pub standing : Option Reached → List ℤ → Stands
standing None l = lost
standing (Some r) l = stands r.leaves r.at l

-- its keys written from a place on
unfoldable pub into : List ℤ → ℕ → Walked → Stands
into l at crooked = lost
into l at (walked leaves ks) = stands leaves (at + length ks) (sets l at ks)
