-- `put_row` is the definition of its name: after f turns the first f words of the row are set (`sets_more`).
use mathlib.Core.Path.{◌≡◌}
use Prim.Native.Nat.{◌*◌}
use lib.ListN.{take}
use lib.Seq.{sets}
use Rattle.words.proofs.put_row.Given as goal

abbrev pub invariant-loop-f : goal.invariant-loop-f
invariant-loop-f l = l.t ≡ sets l.initial.t (l.n * l.width) (take l.f l.row)
