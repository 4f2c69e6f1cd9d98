-- What a turn asks: the totals are within the sizes, the worker's counts are small.
use Rattle.std.specs.Prelude.{Option, None, Some}
use Rattle.std.proofs.Common.{subst}
use Prim.Native.Nat.{ℕ, ◌<◌, ◌≤◌}
use native.Mathlib.Omega.{arith}
use mathlib.Core.Path.{◌≡◌, refl, ap₂}
use mathlib.Core.Bool.{true}
use mathlib.Core.Logic.{◌⊎◌, inl, inr}
use Rattle.shapes.specs.Numbers.{most_n}
use Rattle.tables.specs.World.{World, tables_of}
use Rattle.tables.specs.Fresh.{Left, refused}
use Rattle.shapes.specs.declared.Refusal.TheVariants as refusal
use Rattle.shapes.specs.declared.Board.{Board}
use Rattle.shapes.specs.declared.Worker.{Worker}
use Rattle.shapes.specs.declared.Operation.{Operation}
use Rattle.shapes.specs.declared.Step.{Step}
use Rattle.shapes.specs.Outcomes.{Outcome, Decision}
use Rattle.steps.specs.Decide.{decide}
use Rattle.steps.specs.Turn.{lists_of, settled, settle, outcome_of, step_on}
use Rattle.effects.specs.Sizes.{WithinSizes}
use Rattle.boards.specs.Boards.{worker_of}
use Rattle.turning.specs.Fits.{fits, says-fits}

-- the test, for a worker that is one of P
pub turn_fits : (b : Board) (w : ℕ) → fits b w ≡ true → w < b.totals.p → WithinSizes b.totals × (((worker_of b w).pending ≤ most_n) × ((worker_of b w).found ≤ most_n))
turn_fits b w e l = let h = (says-fits b w).out e in (h.0, counts h.1)
  where
    counts : (b.totals.p ≤ w) ⊎ (((worker_of b w).pending ≤ most_n) × ((worker_of b w).found ≤ most_n)) → ((worker_of b w).pending ≤ most_n) × ((worker_of b w).found ≤ most_n)
    counts (inl k) = absurd (omega arith)
    counts (inr h) = h

-- what a call leaves, by its two parts
pub left_same : {s t : World} {o p : Outcome} → s ≡ t → o ≡ p → ◌≡◌ {A = Left} (record { world = s; outcome = o }) (record { world = t; outcome = p })
left_same e f = ap₂ (λ (s : World) (o : Outcome). record { world = s; outcome = o }) e f

-- a busy worker whose decision goes on
pub goes_on : (s : World) (w : ℕ) (k : Worker) (q : Option Operation) (o : Operation) (d : Step) → q ≡ Some o → decide (tables_of s) (lists_of s w k) o k.hand ≡ Some d → step_on s w k q ≡ record { world = settled s w k o d; outcome = outcome_of d.next }
unfolding step_on settle
goes_on s w k q o d e f = rw (e, f) refl

-- and one whose decision is crooked
pub is_crooked : (s : World) (w : ℕ) (k : Worker) (q : Option Operation) (o : Operation) → q ≡ Some o → decide (tables_of s) (lists_of s w k) o k.hand ≡ None → step_on s w k q ≡ refused s refusal.Crooked
unfolding step_on settle
is_crooked s w k q o e f = rw (e, f) refl

-- what is decided on lists that are read is decided on the lists that are lent
pub decided_on : (t s : World) (w : ℕ) (k : Worker) (o : Operation) (e : Decision) → t ≡ s → decide (tables_of t) (lists_of t w k) o k.hand ≡ e → decide (tables_of s) (lists_of s w k) o k.hand ≡ e
decided_on t s w k o e same f = let P : World → Type 0 = λ u. decide (tables_of u) (lists_of u w k) o k.hand ≡ e in subst P same f
