-- No key is lost: a line lists all the keys that its answer counts.
use Rattle.std.specs.Prelude.{ℕ, zero, suc, ◌≤◌, ◌<◌, ◌≡◌, ltb, Option, None, Some, Ok, Err}
use Rattle.std.proofs.Common.{subst, arith, ltb-true}
use Rattle.laws.specs.Choice.{fork}
use Rattle.shapes.specs.Numbers.{most_n}
use Rattle.shapes.specs.declared.Operation.{Operation}
use Rattle.shapes.specs.declared.Answer.TheVariants.{Keys}
use Rattle.shapes.specs.declared.Next.{Next}
use Rattle.shapes.specs.declared.Next.TheVariants as next
use Rattle.shapes.specs.Outcomes.{Decision}
use Rattle.shapes.specs.Outcomes.{Outcome}
use Rattle.tables.specs.World.{World, totals_of, tables_of, worker_at}
use Rattle.tables.specs.Fresh.{Left}
use Rattle.sound.specs.Sound.{sound_of}
use Rattle.sound.specs.Meaning.{Sound}
use Rattle.sound.specs.Agree.{says-sound}
use Rattle.steps.specs.Turn.{outcome_of, settle, lists_of, step_on, step_of, turn_of, begin, start_of, goes_on, run_by, run_from, run_of, Ran, insert_of, delete_of, find_of, scan_of}
use Rattle.schedule.specs.declared.Command.{Command}
use Rattle.schedule.specs.declared.Command.TheVariants.{Insert, Delete, Find, Scan, Turns}
use Rattle.lines.specs.Text.{listed_of}
use Rattle.lines.specs.declared.Line.{Line}
use Rattle.lines.specs.declared.Line.TheVariants.{Quiet, Answered, Refused, End, Bad}
use Rattle.tally.specs.Playing.{Evening, line_of, begun, ran, play_by}
use Rattle.tally.specs.FewKeys.{Few, FewNext, FewDecision, decide_few}

abbrev FewOutcome : Outcome → Type 0
FewOutcome (Ok None) = Unit {0}
FewOutcome (Ok (Some a)) = Few a
FewOutcome (Err r) = Unit {0}

abbrev FewLine : Line → Type 0
FewLine Quiet = Unit {0}
FewLine (Answered number w a turns) = Few a
FewLine (Refused number w refusal) = Unit {0}
FewLine (End commands nodes records counter) = Unit {0}
FewLine (Bad number) = Unit {0}

-- ---- calls

settle_few : (s : World) (w : ℕ) (o : Operation) (d : Decision) → FewDecision d → FewOutcome (settle s w (worker_at s w) o d).outcome
unfolding settle outcome_of
settle_few s w o None h = tt
settle_few s w o (Some d) h = by d.next h
  where
    by : (q : Next) → FewNext q → FewOutcome (outcome_of q)
    by (next.At q) h = tt
    by (next.Answers a) h = h

module _ (s : World) (w : ℕ) where
  on_few : Sound s → w < (totals_of s).p → (c : Option Operation) → FewOutcome (step_on s w (worker_at s w) c).outcome
  unfolding step_on lists_of
  on_few h l None = tt
  on_few h l (Some o) = settle_few s w o _ (decide_few (tables_of s) (worker_at s w).hand (lists_of s w (worker_at s w)) (h.workers w l).most_found h.sizes.n_at_most o)

  turn_few : FewOutcome (turn_of s w).outcome
  unfolding turn_of step_of
  turn_few =
      fork (λ (d : Left). FewOutcome d.outcome) (sound_of s)
      (λ t. fork (λ (d : Left). FewOutcome d.outcome) (ltb w (totals_of s).p) (λ l. on_few ((says-sound s).out t) (ltb-true _ _ l) (worker_at s w).operation) (λ l. tt))
      (λ t. tt)

  -- an answer's keys have places in a line
  pub few_keys : (n : ℕ) → (turn_of s w).outcome ≡ Ok (Some (Keys n)) → n ≤ most_n
  few_keys n e = subst FewOutcome e turn_few

  -- a start answers nothing
  start_few : (o : Operation) → FewOutcome (start_of s w o).outcome
  unfolding start_of
  start_few o =
      fork (λ (d : Left). FewOutcome d.outcome) (sound_of s)
      (λ t. fork (λ (d : Left). FewOutcome d.outcome) (ltb w (totals_of s).p) (λ l. by (worker_at s w).operation) (λ l. tt))
      (λ t. tt)
    where
      by : (c : Option Operation) → FewOutcome (begin s w (worker_at s w) o c).outcome
      by None = unfold begin in tt
      by (Some old) = unfold begin in tt

goes_on_few_keys : (o : Outcome) (s : World) (n : ℕ) (rest : Ran) → FewOutcome o → FewOutcome rest.outcome → FewOutcome (goes_on o s n rest).outcome
unfolding goes_on
goes_on_few_keys (Ok None) s n rest h more = more
goes_on_few_keys (Ok (Some a)) s n rest h more = h
goes_on_few_keys (Err r) s n rest h more = tt

run_few_keys : (k n w : ℕ) (s : World) → FewOutcome (run_from k n w s).outcome
unfolding run_by
run_few_keys zero n w s = tt
run_few_keys (suc k) n w s = goes_on_few_keys (turn_of s w).outcome _ n _ (turn_few s w) (run_few_keys k (suc n) w (turn_of s w).world)

-- ---- lines

line_few : (number w turns : ℕ) (o : Outcome) → FewOutcome o → FewLine (line_of number w o turns)
unfolding line_of
line_few number w turns (Ok None) h = tt
line_few number w turns (Ok (Some a)) h = h
line_few number w turns (Err r) h = tt

play_few : (add : ℕ → ℕ → ℕ) (number : ℕ) (c : Command) (e : Evening) → FewLine (play_by add number c e).line
unfolding play_by begun ran insert_of delete_of find_of scan_of run_of
play_few add number (Insert w k) e = line_few number w 0 _ (start_few e.world w _)
play_few add number (Delete w k) e = line_few number w 0 _ (start_few e.world w _)
play_few add number (Find w k) e = line_few number w 0 _ (start_few e.world w _)
play_few add number (Scan w a b) e = line_few number w 0 _ (start_few e.world w _)
play_few add number (Turns w n) e = line_few number w _ _ (run_few_keys n 0 w e.world)

-- a command's line lists all the keys that its answer counts
pub all_listed : (add : ℕ → ℕ → ℕ) (number : ℕ) (c : Command) (e : Evening) (at w n turns : ℕ) → (play_by add number c e).line ≡ Answered at w (Keys n) turns → listed_of (Keys n) ≡ n
unfolding listed_of
all_listed add number c e at w n turns h = let few : n ≤ most_n = subst FewLine h (play_few add number c e) in omega arith
