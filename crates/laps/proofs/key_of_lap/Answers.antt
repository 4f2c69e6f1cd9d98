-- Within the ranges product and sum fit 32 bits, so the machine's key is the key.
use Rattle.std.proofs.Common.{◌≡◌, true, sym, ◌∙◌, w32}
use Rattle.std.proofs.lemmas.Int.{to_z-of_z}
use Rattle.laws.specs.Choice.{pick_true}
use Rattle.laps.specs.Laps.{told, key_of_lap, lap_in_range}
use Rattle.laps.proofs.Keys.{key_fits, machine_key}
use Rattle.laps.proofs.key_of_lap.Goals as goal

pub returns-then-lap_in_range : goal.returns-then-lap_in_range
unfolding told key_of_lap
returns-then-lap_in_range c =
    let difference = to_z-of_z w32 c.args.difference c.ranges.difference in
    let inside : lap_in_range c.args.difference c.args.entry ≡ true = rw difference at (sym c.lap_in_range.ensures ∙ c.if-lap_in_range.true) in
    simp (difference, machine_key _ _ inside, to_z-of_z w32 _ (key_fits _ _ inside)) (sym (pick_true _ _ _ inside))
