-- A scan's turn, made of the values that the code passes.
use Rattle.std.specs.Prelude.{Option, Some}
use Rattle.shapes.specs.declared.Key.{Key}
use Rattle.shapes.specs.declared.Locals.{Locals}
use Rattle.shapes.specs.declared.Effect.TheVariants as effect
use Rattle.shapes.specs.declared.PendingChange.{PendingChange}
use Rattle.shapes.specs.declared.Next.{Next}
use Rattle.shapes.specs.Outcomes.{Decision}

-- a turn that touches nothing but the scan's own lists
abbrev pub sweeps_on : PendingChange → Locals → Option Key → Next → Decision
sweeps_on change hand found next = Some (record { effect = effect.Nothing; hand = hand; pending = change; found = found; next = next })
