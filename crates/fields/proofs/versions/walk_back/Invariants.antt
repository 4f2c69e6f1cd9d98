-- `walk_back` is the definition of its name: the walk that is left is the whole walk at every turn of the loop (Walks).
use Rattle.std.specs.Prelude.{Some}
use mathlib.Core.Path.{◌≡◌}
use Prim.Native.Nat.{◌-◌}
use Rattle.tables.specs.Versions.{walk_back}
use Rattle.fields.proofs.versions.walk_back.Given as goal

abbrev pub invariant-loop-taken : goal.invariant-loop-taken
invariant-loop-taken l = walk_back (l.used - l._taken) l.ns l.seq (Some l.x) ≡ walk_back l.used l.ns l.seq (Some l.initial.x)
