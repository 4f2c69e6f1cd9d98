-- What is written of a number: its one group, or its lowest group and then, a place further, the groups of the rest.
use Rattle.std.proofs.Common.{◌≡◌, List, ℕ, ◌+◌, ◌/◌, ◌%◌, ◌^◌, ◌≤◌, ◌<◌, length, ap, add-one, arith}
use Rattle.std.proofs.Math.ListN.{set, length-set}
use Rattle.std.proofs.lemmas.List.Edits.{sets}
use Rattle.groups.specs.Format.{group, bits, groups_of}
use Rattle.groups.specs.Spelling.{spelled-one, spelled_more, spelled_some}

pub one_group : (n : ℕ) (buffer : List ℕ) (at : ℕ) → n < group → sets buffer at (groups_of n) ≡ set buffer at n
one_group n buffer at h = rw (spelled-one bits n h)

pub more_groups : (n : ℕ) (buffer : List ℕ) (at : ℕ) → n < 2 ^ bits → group ≤ n → sets buffer at (groups_of n) ≡ sets (set buffer at (group + n % group)) (at + 1) (groups_of (n / group))
more_groups n buffer at fits h = rw (spelled_more bits n fits h, add-one at)

-- and there is room for them
pub room_behind : (n : ℕ) (buffer : List ℕ) (at byte : ℕ) → n < 2 ^ bits → group ≤ n → at + length (groups_of n) ≤ length buffer → at + 1 + length (groups_of (n / group)) ≤ length (set buffer at byte)
room_behind n buffer at byte fits h room = simp length-set (omega (arith, ap length (spelled_more bits n fits h)))

-- what `put_groups` is proved by
pub ruleset puts = (spelled_some, one_group, more_groups, room_behind)
