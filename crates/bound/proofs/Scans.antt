-- A scan that has read its phase, where what holds after every history holds: its next turn is not refused, and its turns are bounded.
use Rattle.std.specs.Prelude.{ℕ, suc, ◌+◌, ◌*◌, ◌≤◌, ◌<◌, refl, false, None, Some, Ok}
use Rattle.std.proofs.Math.Path.{◌≡◌, ap, subst}
use Rattle.std.proofs.Common.{sym, ◌∙◌, arith, lt-ltb}
use Rattle.laws.specs.Choice.{pick_true}
use Rattle.shapes.specs.declared.Worker.{Worker}
use Rattle.shapes.specs.declared.Operation.{Operation}
use Rattle.shapes.specs.declared.Operation.TheVariants.{Scan}
use Rattle.shapes.specs.declared.Next.{Next}
use Rattle.shapes.specs.declared.Next.TheVariants as next
use Rattle.shapes.specs.declared.Step.{Step}
use Rattle.shapes.specs.declared.Answer.{Answer}
use Rattle.shapes.specs.Outcomes.{Decision}
use Rattle.tables.specs.World.{World, totals_of, tables_of, worker_at}
use Rattle.tables.specs.Fresh.{Left}
use Rattle.sound.specs.Agree.{says-sound}
use Rattle.steps.specs.Decide.{scan, decide}
use Rattle.steps.specs.Turn.{outcome_of, settled, settle, lists_of, step_on, step_of, turn_of}
use Rattle.steps.specs.Kept.{is_refused}
use Rattle.views.specs.View.{view}
use Rattle.protocol.specs.Waiting.{lists_tied}
use Rattle.protocol.specs.ScanPlaces.{ScanKnows}
use Rattle.protocol.specs.ScanCount.{inner_nodes_lem, scan-short}
use Rattle.protocol.specs.ScanCount as seen
use Rattle.protocol.specs.ScanChild.{Onward, Decided}
use Rattle.protocol.specs.ScanMoves.{scan_moves}
use Rattle.bound.specs.Histories.{inner_nodes}
use Rattle.bound.specs.Statement.{HasPhase, most_turns}
use Rattle.bound.specs.Knows.{ConditionKnows}
use Rattle.bound.specs.Reached.{waiting_at, Reached}
use Rattle.bound.specs.Turns.{not_refused}

-- the statement's count of nodes is the theory's
pub most_is : (s : World) (i : ℕ) → 2 + 16 * seen.inner_nodes (view (tables_of s)) i ≡ most_turns s i
unfolding most_turns inner_nodes
most_is s i = ap (λ n. 2 + 16 * n) (inner_nodes_lem (tables_of s) i)

module _ (p : ℕ) (s : World) (T : ℕ → ℕ) (R : Reached p s T) (w i : ℕ) (in_p : w < (totals_of s).p) (P : HasPhase s w i) where
  abbrev k : Worker
  k = worker_at s w

  abbrev o : Operation
  o = Scan P.low P.high P.place

  known : ScanKnows (view (tables_of s)) R.ghost k.hand (waiting_at s w) k.found (T w) P.place
  known = subst (ConditionKnows w (view (tables_of s)) R.ghost k.hand k.pending (waiting_at s w) k.found (T w)) P.holds (R.knows w in_p)

  abbrev next_step : Decision
  next_step = scan (tables_of s) (lists_of s w k) P.low P.high k.hand P.place

  abbrev D : Decision → Type 0
  D = Decided w (tables_of s) R.ghost k.hand.seq.0 (waiting_at s w) k.found (T w)

  moves : D next_step
  unfolding lists_of
  moves = scan_moves w (tables_of s) R.sound.shared R.ghost R.holds P.low P.high k.hand (lists_of s w k) (T w) R.root (R.versions _) (waiting_at s w) (lists_tied s w k) P.place known

  turn_is : turn_of s w ≡ settle s w k o next_step
  unfolding turn_of step_of
  turn_is = pick_true _ _ _ ((says-sound s).back R.sound) ∙ pick_true _ _ _ (lt-ltb _ _ in_p) ∙ ap (step_on s w k) P.holds ∙ (unfold step_on decide in refl)

  settle-accepted : (e : Decision) → D e → is_refused (settle s w k o e).outcome ≡ false
  unfolding settle
  settle-accepted None g = absurd g
  settle-accepted (Some d) g = not_refused d.next

  pub accepted : is_refused (turn_of s w).outcome ≡ false
  accepted = ap (λ (l : Left). is_refused l.outcome) turn_is ∙ settle-accepted next_step moves

  pub going : T w < most_turns s i
  going =
      let short : T w < 2 + 16 * seen.inner_nodes (view (tables_of s)) k.hand.seq.0 = scan-short (view (tables_of s)) R.ghost R.holds k.hand (waiting_at s w) k.found (T w) P.place known in
      rw (← most_is s i, ← P.phase) short

  -- at an answer
  Answered : Answer → Left → Type 0
  Answered a l = l.outcome ≡ Ok (Some a) → suc (T w) ≤ most_turns l.world i

  next_answers : (a : Answer) (d : Step) (n : Next) → Onward w (tables_of s) R.ghost k.hand.seq.0 (waiting_at s w) k.found (T w) d n → outcome_of n ≡ Ok (Some a) → suc (T w) ≤ most_turns (settled s w k o d) i
  unfolding outcome_of
  next_answers a d (next.At q) g e = let z : ◌≡◌ {A = ℕ} 0 1 = cc in absurd (omega arith)
  next_answers a d (next.Answers b) g e = rw (← most_is (settled s w k o d) i, ← P.phase) (unfold settled in g.1)

  settle_answers : (a : Answer) (e : Decision) → D e → Answered a (settle s w k o e)
  unfolding Answered settle
  settle_answers a None g = absurd g
  settle_answers a (Some d) g = next_answers a d d.next g

  pub answers : (a : Answer) → (turn_of s w).outcome ≡ Ok (Some a) → suc (T w) ≤ most_turns (turn_of s w).world i
  unfolding Answered
  answers a = subst (Answered a) (sym turn_is) (settle_answers a next_step moves)
