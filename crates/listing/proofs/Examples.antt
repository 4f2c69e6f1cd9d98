-- The worked examples of the version listing, computed.
use Rattle.std.specs.Prelude.{refl}
use Rattle.steps.specs.Opened.{steps_opened}
use Rattle.steps.specs.Play.{fresh, insert, delete, scans, took, done}
use Rattle.steps.specs.Errors.{old_scan}
use Rattle.steps.specs.Deletes.{two, three}
use Rattle.listing.specs.Listing.{leaf_keys, at_leaf, behind, and_then, to_child, walk, into_list, list_of}
use Rattle.listing.specs.Examples.{version, inserted, next_phase, three_phases, cycle, shared, too_late, Examples}

pub examples : Examples
unfolding steps_opened fresh insert delete scans took done two three old_scan leaf_keys at_leaf behind and_then to_child walk into_list list_of version inserted next_phase three_phases cycle shared too_late
examples = record {
  of_fresh = refl;
  rising = refl;
  negative = refl;
  left_to_right = refl;
  old_version = refl;
  new_version = refl;
  phase0 = refl;
  phase1 = refl;
  phase2 = refl;
  last_phase = refl;
  too_short = refl;
  longer = refl;
  unsound = refl;
  a_cycle = refl;
  table_first = refl;
  walk_fails = refl;
  walk_holds = refl;
  many_leaves = refl;
  one_too_many = refl;
  just_enough = refl;
}
