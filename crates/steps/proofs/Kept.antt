-- A refusal leaves all as before: a turn, a start or fresh tables that come to a refusal leave the world as it was given.
use Rattle.std.specs.Prelude.{ℕ, ◌≡◌, ◌&&◌, ltb, Option, None, Some, Err}
use Rattle.std.proofs.Common.{ap}
use Rattle.std.proofs.lemmas.Bool.{false≢true}
use Rattle.laws.specs.Choice.{fork}
use Rattle.shapes.specs.declared.Worker.{Worker}
use Rattle.shapes.specs.declared.Operation.{Operation}
use Rattle.shapes.specs.declared.Next.{Next}
use Rattle.shapes.specs.declared.Next.TheVariants as next
use Rattle.shapes.specs.declared.Refusal.{Refusal}
use Rattle.shapes.specs.declared.Refusal.TheVariants as refusal
use Rattle.shapes.specs.Outcomes.{Decision}
use Rattle.shapes.specs.Outcomes.{Outcome}
use Rattle.tables.specs.World.{World, totals_of, tables_of, worker_at}
use Rattle.tables.specs.Fresh.{refused, sizes_ok, lent_ok, fresh_of}
use Rattle.sound.specs.Sound.{sound_of}
use Rattle.steps.specs.Decide.{decide}
use Rattle.steps.specs.Turn.{outcome_of, settle, lists_of, step_on, step_of, turn_of, begin, start_of}
use Rattle.steps.specs.Kept.{is_refused, Keeps}

refused_keeps : (s : World) (r : Refusal) → Keeps s (refused s r)
refused_keeps s r q e = ap (λ (o : Outcome). record { world = s; outcome = o }) e

next_goes : (n : Next) (r : Refusal) → outcome_of n ≡ Err r → ⊥
unfolding outcome_of is_refused
next_goes (next.At q) r e = false≢true (ap is_refused e)
next_goes (next.Answers a) r e = false≢true (ap is_refused e)

settle_keeps : (s : World) (w : ℕ) (k : Worker) (o : Operation) (d : Decision) → Keeps s (settle s w k o d)
unfolding settle
settle_keeps s w k o None r e = refused_keeps s refusal.Crooked r e
settle_keeps s w k o (Some d) r e = absurd (next_goes d.next r e)

step_keeps : (s : World) (w : ℕ) (k : Worker) (c : Option Operation) → Keeps s (step_on s w k c)
unfolding step_on
step_keeps s w k None r e = refused_keeps s refusal.Idle r e
step_keeps s w k (Some o) r e = settle_keeps s w k o (decide (tables_of s) (lists_of s w k) o k.hand) r e

pub turn_keeps : (s : World) (w : ℕ) → Keeps s (turn_of s w)
unfolding turn_of step_of
turn_keeps s w =
    fork (Keeps s) (sound_of s)
    (λ _. fork (Keeps s) (ltb w (totals_of s).p) (λ _. step_keeps s w (worker_at s w) (worker_at s w).operation) (λ _. refused_keeps s refusal.Worker))
    (λ _. refused_keeps s refusal.Table)

begin_keeps : (s : World) (w : ℕ) (k : Worker) (o : Operation) (c : Option Operation) → Keeps s (begin s w k o c)
unfolding begin is_refused
begin_keeps s w k o None r e = absurd (false≢true (ap is_refused e))
begin_keeps s w k o (Some old) r e = refused_keeps s refusal.Busy r e

pub start_keeps : (s : World) (w : ℕ) (o : Operation) → Keeps s (start_of s w o)
unfolding start_of
start_keeps s w o =
    fork (Keeps s) (sound_of s)
    (λ _. fork (Keeps s) (ltb w (totals_of s).p) (λ _. begin_keeps s w (worker_at s w) o (worker_at s w).operation) (λ _. refused_keeps s refusal.Worker))
    (λ _. refused_keeps s refusal.Table)

pub fresh_keeps : (n m p : ℕ) (s : World) → Keeps s (fresh_of n m p s)
unfolding fresh_of is_refused
fresh_keeps n m p s =
    fork (Keeps s) (sizes_ok n m p && lent_ok n m p s)
    (λ _ r e. absurd (false≢true (ap is_refused e)))
    (λ _. refused_keeps s refusal.Size)
