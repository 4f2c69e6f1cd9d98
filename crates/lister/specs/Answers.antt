-- The answer of `list` and the list that it leaves can be had back from what they come to.
use Rattle.std.specs.Prelude.{◌≡◌, refl, Result, Ok, Err, List, ℕ, ℤ}
use Rattle.shapes.specs.declared.Refusal.{Refusal}
use Rattle.listing.specs.Listing.{Listed, listed, refused}
use Rattle.lister.specs.Lists.{left}

pub back : Listed → Result ℕ Refusal × List ℤ
back (listed n l) = (Ok n, l)
back (refused why l) = (Err why, l)

pub comes_back : (r : Result ℕ Refusal) (l : List ℤ) → back (left r l) ≡ (r, l)
unfolding back left
comes_back (Ok n) l = refl
comes_back (Err why) l = refl
