-- An opening by its three sizes.
use Rattle.std.specs.Prelude.{◌≡◌, List, ℕ, ◌≤◌, true, false, length, get_or, Some, None}
use Rattle.std.proofs.Common.{ap, ◌∙◌}
use Rattle.laws.specs.Choice.{pick_true, pick_false}
use Rattle.tables.specs.Fresh.{sizes_ok}
use Rattle.schedule.specs.Answers.{opening}
use Rattle.schedule.specs.Numbers.{most_bytes}
use Rattle.schedule.specs.Reading.{numbers_at, sized, opening_at}
use Rattle.schedule.specs.Openings.{too_long, not_too_long}

pub no_sizes : (s : List ℕ) → length s ≤ most_bytes → numbers_at 3 s ≡ None → opening_at s ≡ None
unfolding sized
no_sizes s few none = not_too_long s few ∙ ap sized none

module _ (s ns : List ℕ) (end : ℕ) (few : length s ≤ most_bytes) (found : numbers_at 3 s ≡ Some (ns, end)) where
  pub out_of_range : sizes_ok (get_or ns 0 0) (get_or ns 1 0) (get_or ns 2 0) ≡ false → opening_at s ≡ None
  unfolding sized
  out_of_range out = not_too_long s few ∙ ap sized found ∙ pick_false _ _ _ out

  pub in_range : sizes_ok (get_or ns 0 0) (get_or ns 1 0) (get_or ns 2 0) ≡ true → opening_at s ≡ Some (opening (get_or ns 0 0) (get_or ns 1 0) (get_or ns 2 0), end)
  unfolding sized
  in_range ok = not_too_long s few ∙ ap sized found ∙ pick_true _ _ _ ok

-- what `read_opening` is proved by
pub ruleset by_sizes = (too_long, no_sizes, out_of_range, in_range)
