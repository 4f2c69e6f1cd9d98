-- A command by the kind that its first number says, one kind after another.
use Rattle.std.specs.Prelude.{◌≡◌, ℕ, Some, None}
use Rattle.std.proofs.Common.{ne_eqb}
use Rattle.std.proofs.lemmas.Int.{ints, to_z-of_z}
use Rattle.laws.specs.Choice.{pick}
use Rattle.groups.specs.Format.{signed_of}
use Rattle.schedule.specs.Numbers.{insert, delete, find, scan, turns}
use Rattle.schedule.specs.Reading.{command_of}
use Rattle.schedule.specs.declared.Command.TheVariants.{Insert, Delete, Find, Scan, Turns}

module _ (kind worker a b end : ℕ) where
  pub insert_is : kind ≡ insert → command_of kind worker a b end ≡ Some (Insert worker (signed_of a), end)
  unfolding command_of pick
  insert_is e = rw e

  pub delete_is : kind ≡ delete → command_of kind worker a b end ≡ Some (Delete worker (signed_of a), end)
  unfolding command_of pick
  delete_is e = rw e

  pub find_is : kind ≡ find → command_of kind worker a b end ≡ Some (Find worker (signed_of a), end)
  unfolding command_of pick
  find_is e = rw e

  pub scan_is : kind ≡ scan → command_of kind worker a b end ≡ Some (Scan worker (signed_of a) (signed_of b), end)
  unfolding command_of pick
  scan_is e = rw e

  pub turns_is : kind ≡ turns → (a ≡ 0 → ⊥) → command_of kind worker a b end ≡ Some (Turns worker a, end)
  unfolding command_of pick
  turns_is e some = rw (e, ne_eqb a 0 some)

  pub no_turns : kind ≡ turns → a ≡ 0 → command_of kind worker a b end ≡ None
  unfolding command_of pick
  no_turns e none = rw (e, none)

  pub unknown : (kind ≡ insert → ⊥) → (kind ≡ delete → ⊥) → (kind ≡ find → ⊥) → (kind ≡ scan → ⊥) → (kind ≡ turns → ⊥) → command_of kind worker a b end ≡ None
  unfolding command_of pick
  unknown i d f s t = rw (ne_eqb kind insert i, ne_eqb kind delete d, ne_eqb kind find f, ne_eqb kind scan s, ne_eqb kind turns t)

-- what `command_of` is proved by
pub ruleset by_kind = (ints, to_z-of_z, insert_is, delete_is, find_is, scan_is, turns_is, no_turns, unknown)
