-- How many keys a walk may list, of the leaves that it may meet. That every walk keeps to it: proofs/Leaves.antt.
use Rattle.std.specs.Prelude.{ℕ, ◌+◌, ◌≤◌, length}
use Rattle.listing.specs.Listing.{Walked, crooked, walked}

unfoldable pub Within : ℕ → Walked → Type 0
Within n crooked = Unit {0}
Within n (walked left ks) = length ks + left ≤ n
