-- `clear` is `cleared`: after so many turns, so many places are as the zero.
use mathlib.Core.Path.{◌≡◌}
use lib.ListN.{replicate, take}
use Rattle.fresh.proofs.clearing.clear.Given as goal

abbrev pub invariant-loop-place : goal.invariant-loop-place
invariant-loop-place g l = take l.place-index l.place-items ≡ replicate l.place-index l.zero
