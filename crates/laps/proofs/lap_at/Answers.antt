-- `laps::lap_at` rounds down: where something below zero remains it takes one more off the quotient, and the rest from below.
use mathlib.Core.Path.{◌≡◌, refl}
use mathlib.Core.Bool.{true, false}
use native.Mathlib.Omega.{arith}
use lib.IntN.{pos}
use lib.Signed.{lt_z, rem_z}
use mir.Syntax.{w32}
use mir.ValLaws.{to_z-of_z}
use Rattle.laps.specs.Laps.{lap_at, entries}
use Rattle.laps.specs.Floor.{rest_below}
use Rattle.laps.proofs.Quotients.{quotient_fits, remainder_fits, floor_fits, lowered, raised, quotient_as_is, remainder_as_is}
use Rattle.laps.proofs.Keys.{some_entries, rest_fits}
use Rattle.laps.proofs.lap_at.Goals as goal

-- what the test showed, of the key itself
below : (c : goal.Then-rest-lt0) → lt_z (rem_z c.args.key (pos entries)) (pos 0) ≡ true
below c =
    let fits = c.ranges.key in
    rw (to_z-of_z w32 _ fits, to_z-of_z w32 _ (remainder_fits w32 _ entries fits)) at c.if-rest-lt0.true

above : (c : goal.Else-rest-lt0) → lt_z (rem_z c.args.key (pos entries)) (pos 0) ≡ false
above c =
    let fits = c.ranges.key in
    rw (to_z-of_z w32 _ fits, to_z-of_z w32 _ (remainder_fits w32 _ entries fits)) at c.if-rest-lt0.false

pub nonzero_div-quotient : goal.nonzero_div-quotient
nonzero_div-quotient c = (omega arith, rw (to_z-of_z w32 _ c.ranges.key) (quotient_fits w32 _ _ c.ranges.key))

pub nonzero_rem-rest : goal.nonzero_rem-rest
nonzero_rem-rest c = (omega arith, rw (to_z-of_z w32 _ c.ranges.key) (quotient_fits w32 _ _ c.ranges.key))

pub overflow_sub-difference : goal.overflow_sub-difference
overflow_sub-difference c =
    let fits = c.ranges.key in
    rw (to_z-of_z w32 _ fits, lowered w32 _ entries fits some_entries (below c)) (floor_fits w32 _ entries fits)

pub overflow_add-entry : goal.overflow_add-entry
overflow_add-entry c =
    let fits = c.ranges.key in
    rw (to_z-of_z w32 _ fits, raised w32 _ entries fits some_entries (below c)) (rest_fits _)

pub overflow_cast-entry : goal.overflow_cast-entry
overflow_cast-entry c =
    let fits = c.ranges.key in
    rw (to_z-of_z w32 _ fits, raised w32 _ entries fits some_entries (below c), to_z-of_z w32 _ (rest_fits c.args.key))
    (tt, record { fits = omega (arith, rest_below entries some_entries c.args.key) })

pub overflow_cast-entry-else-rest-lt0 : goal.overflow_cast-entry-else-rest-lt0
overflow_cast-entry-else-rest-lt0 c =
    let fits = c.ranges.key in
    rw (to_z-of_z w32 _ fits, remainder_as_is w32 _ entries fits some_entries (above c))
    (tt, record { fits = omega (arith, rest_below entries some_entries c.args.key) })

pub returns-then-rest-lt0 : goal.returns-then-rest-lt0
unfolding lap_at
returns-then-rest-lt0 c =
    let fits = c.ranges.key in
    simp (to_z-of_z w32 _ fits, lowered w32 _ entries fits some_entries (below c), raised w32 _ entries fits some_entries (below c), to_z-of_z w32 _ (floor_fits w32 _ entries fits), to_z-of_z w32 _ (rest_fits c.args.key)) refl

pub returns-else-rest-lt0 : goal.returns-else-rest-lt0
unfolding lap_at
returns-else-rest-lt0 c =
    let fits = c.ranges.key in
    simp (to_z-of_z w32 _ fits, quotient_as_is w32 _ entries fits some_entries (above c), remainder_as_is w32 _ entries fits some_entries (above c))
