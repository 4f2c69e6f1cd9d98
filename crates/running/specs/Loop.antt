-- A run's loop: its turns without the looks at the tables.
use Rattle.std.specs.Prelude.{ℕ, List, Bool, true, false, ℤ, None, Some, Ok, Err}
use Rattle.shapes.specs.declared.Run.{Run}
use Rattle.shapes.specs.Outcomes.{Outcome}
use Rattle.tables.specs.World.{World, world}
use Rattle.lending.specs.declared.Lent.{Lent}
use Rattle.steps.specs.Turn.{Ran, run_by}
use Rattle.turning.specs.Fits.{step_within}

-- all that a run leaves
abbrev pub ran : Run → List ℕ → List ℕ → List ℕ → List ℤ → Ran
ran r ns rs ps fs = record { world = world r.board ns rs ps fs; outcome = r.outcome; turns = r.turns }

abbrev pub lent_ran : Run → Lent → Ran
lent_ran r l = ran r l.nodes.now l.records.now l.pending.now l.found.now

-- `run_from` without the looks
abbrev pub steps_from : ℕ → ℕ → ℕ → World → Ran
steps_from = run_by step_within

unfoldable pub is_going : Outcome → Bool
is_going (Ok None) = true
is_going (Ok (Some a)) = false
is_going (Err r) = false

-- the turns before, or those with this one
unfoldable pub counted : Outcome → ℕ → ℕ → ℕ
counted (Ok None) before taken = taken
counted (Ok (Some a)) before taken = taken
counted (Err r) before taken = before
