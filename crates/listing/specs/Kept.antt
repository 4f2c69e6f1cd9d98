-- What a listing may leave of the lent list: places behind the keys keep their contents, a refusal leaves it as it was. That every listing does so: proofs/Kept.antt.
use Rattle.std.specs.Prelude.{ℕ, ◌≤◌, ◌≡◌, ◌⊎◌, List, length, drop, ℤ}
use Rattle.shapes.specs.Numbers.{refusal_number}
use Rattle.listing.specs.Listing.{Listed, listed, refused}

pub record Written (used : ℕ) (l : List ℤ) (n : ℕ) (out : List ℤ) : Type 0 where
  pub few : n ≤ used
  pub same_length : length out ≡ length l
  pub behind : drop n out ≡ drop n l

-- refusals are 1 and 7 only
unfoldable pub Leaves : ℕ → List ℤ → Listed → Type 0
Leaves used l (listed n out) = Written used l n out
Leaves used l (refused why out) = (out ≡ l) × ((refusal_number why ≡ 1) ⊎ (refusal_number why ≡ 7))
