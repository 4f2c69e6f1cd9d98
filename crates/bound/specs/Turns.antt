-- A turn keeps what holds after every history.
use Rattle.std.specs.Prelude.{ℕ, suc, ◌+◌, ◌*◌, ◌<◌, ◌≡◌, ◌≢◌, List, false, eqb, ltb, get_or, Option, None, Some}
use Rattle.std.proofs.Math.Path.{refl, subst}
use Rattle.std.proofs.Common.{sym, ap, ◌∙◌, arith, length-set, ltb-true}
use Rattle.std.proofs.Math.Seq.{get_or-set_same, get_or-set_other}
use Rattle.laws.specs.Choice.{pick, fork}
use Rattle.laws.specs.Changed.{by_equal}
use Rattle.shapes.specs.declared.Totals.{Totals}
use Rattle.shapes.specs.declared.Worker.{Worker}
use Rattle.shapes.specs.declared.Operation.{Operation}
use Rattle.shapes.specs.declared.Next.{Next}
use Rattle.shapes.specs.declared.Next.TheVariants as next
use Rattle.shapes.specs.declared.Step.{Step}
use Rattle.shapes.specs.declared.Refusal.{Refusal}
use Rattle.shapes.specs.declared.Refusal.TheVariants as refusal
use Rattle.shapes.specs.Outcomes.{Decision}
use Rattle.tables.specs.World.{Tables, World, totals_of, tables_of, idle, worker_at, spot}
use Rattle.tables.specs.Fresh.{Left, refused}
use Rattle.sound.specs.Sound.{sound_of}
use Rattle.sound.specs.Meaning.{ConditionSound, Sound}
use Rattle.steps.specs.Decide.{decide}
use Rattle.steps.specs.Apply.{apply}
use Rattle.steps.specs.Turn.{pushed, worker_next, outcome_of, settled, settle, lists_of, step_on, step_of, turn_of}
use Rattle.steps.specs.Kept.{is_refused}
use Rattle.kept.specs.Later.{Grows}
use Rattle.kept.specs.Effects.{effect_keeps}
use Rattle.kept.specs.Good.{GoodStep, Good}
use Rattle.kept.specs.Settled.{home_of, listed_by, decide_good}
use Rattle.kept.specs.Kept.{top_used}
use Rattle.views.specs.View.{view}
use Rattle.protocol.specs.Trees.{version_kept}
use Rattle.protocol.specs.HelpTurns.{Gives}
use Rattle.protocol.specs.Waiting.{stack, waiting, waits_next, waiting_next, waiting_other, lists_tied}
use Rattle.bound.specs.Knows.{ConditionKnows, Knows, knows_kept}
use Rattle.bound.specs.Reached.{waiting_at, Reached}
use Rattle.bound.specs.Starts.{own_count, other_count}
use Rattle.bound.specs.Own.{Moves, own_moves}

-- the lists lie as N says
waiting-size : (t u : Totals) (ps : List ℕ) (w k : ℕ) → u.n ≡ t.n → waiting u ps w k ≡ waiting t ps w k
unfolding waiting spot
waiting-size t u ps w k e = ap (λ m. stack (λ i. get_or ps (w * m + i) 0) k) e

-- a decision that goes on or answers is no refusal
pub not_refused : (n : Next) → is_refused (outcome_of n) ≡ false
unfolding is_refused outcome_of
not_refused (next.At q) = refl
not_refused (next.Answers a) = refl

module _ (p : ℕ) (s : World) (T : ℕ → ℕ) (R : Reached p s T) (w : ℕ) where
  -- what a turn leaves; that it is sound is known already
  abbrev pub Turned : Left → Type 0
  Turned l = Sound l.world → Reached p l.world (λ u. pick (is_refused l.outcome) (T u) (pick (eqb w u) (suc (T u)) (T u)))

  refused_same : (r : Refusal) → Turned (refused s r)
  unfolding is_refused pick
  refused_same r h = R

  module _ (in_p : w < (totals_of s).p) (o : Operation) (holds : (worker_at s w).operation ≡ Some o) (d : Step) (decided : decide (tables_of s) (lists_of s w (worker_at s w)) o (worker_at s w).hand ≡ Some d) where
    abbrev k : Worker
    k = worker_at s w

    abbrev after : World
    after = settled s w (worker_at s w) o d

    abbrev new : Tables
    new = apply d.effect (tables_of s)

    good : GoodStep (tables_of s) (home_of o) (listed_by o) k.pending k.found d
    unfolding lists_of
    good = subst (Good (tables_of s) (home_of o) (listed_by o) k.pending k.found) decided (decide_good (tables_of s) R.sound.shared (lists_of s w k) o k.hand (R.sound.workers w in_p).hand (top_used s R.sound w in_p) (subst (ConditionSound s.records k.hand k.pending) holds (R.sound.workers w in_p).place))

    grows : Grows (totals_of s) new.totals
    grows = (effect_keeps d.effect (tables_of s) R.sound.shared good.fits).later.totals

    own : Gives w (view (tables_of s)) (view new) R.ghost (λ G'. Knows w (view new) G' (waits_next (waiting_at s w) d.pending) (suc (T w)) (worker_next k o d d.next))
    own =
        let M : Decision → Type 0 = Moves w (tables_of s) R.sound.shared R.ghost R.holds R.root R.versions k (waiting_at s w) (T w) o in
        subst M decided (own_moves w (tables_of s) R.sound.shared R.ghost R.holds R.root R.versions k (waiting_at s w) (T w) (lists_of s w k) (unfold lists_of in refl) (lists_tied s w k) o
        (subst (ConditionKnows w (view (tables_of s)) R.ghost k.hand k.pending (waiting_at s w) k.found (T w)) holds (R.knows w in_p)))

    -- ---- the workers

    own_worker : worker_at after w ≡ worker_next k o d d.next
    unfolding worker_at settled
    own_worker = get_or-set_same s.board.workers w _ idle (omega (arith, R.seats))

    other_worker : (u : ℕ) → u ≢ w → worker_at after u ≡ worker_at s u
    unfolding worker_at settled
    other_worker u ne = get_or-set_other s.board.workers w u _ idle ne

    abbrev lists : List ℕ
    lists = pushed s.pending (spot (totals_of s) w k.pending) d.pending

    -- what worker u is to know, of any count and worker
    abbrev Told : ℕ → ℕ → Worker → Type 0
    Told u n j = Knows u (view new) own.after (waiting new.totals lists u j.pending) n j

    own_told : (n : Next) → Knows w (view new) own.after (waits_next (waiting_at s w) d.pending) (suc (T w)) (worker_next k o d n) → Told w (suc (T w)) (worker_next k o d n)
    unfolding worker_next
    own_told (next.At q) h = rw (waiting-size (totals_of s) new.totals lists w _ grows.n, waiting_next (totals_of s) s.pending w in_p R.sound.pending_lent k.pending d.pending good.pending) h
    own_told (next.Answers a) h = h

    own_knows : Told w (pick (eqb w w) (suc (T w)) (T w)) (worker_at after w)
    own_knows = rw (own_worker, own_count w (suc (T w)) (T w)) (own_told d.next own.knows)

    other_knows : (u : ℕ) → u < (totals_of s).p → u ≢ w → Told u (pick (eqb w u) (suc (T u)) (T u)) (worker_at after u)
    other_knows u l ne =
        rw (
          other_worker u ne,
          other_count w u (suc (T u)) (T u) ne,
          waiting-size (totals_of s) new.totals lists u (worker_at s u).pending grows.n,
          waiting_other (totals_of s) s.pending w in_p R.sound.pending_lent u k.pending (worker_at s u).pending d.pending ne (R.sound.workers u l).most_pending good.pending,
        )
        (knows_kept w (view (tables_of s)) (view new) R.ghost own.after R.holds own.rely own.trees u ne (waiting_at s u) (T u) (worker_at s u) (R.knows u l))

    abbrev counts : ℕ → ℕ
    counts u = pick (eqb w u) (suc (T u)) (T u)

    moved_reached : Sound after → Reached p after counts
    unfolding settled
    moved_reached h = record {
      sound = h;
      workers = grows.p ∙ R.workers;
      seats = rw (length-set s.board.workers w (worker_next k o d d.next), grows.p) R.seats;
      ghost = own.after;
      holds = own.holds;
      root = own.rely.linked 0 R.root;
      versions = λ i. version_kept (view (tables_of s)) (view new) R.ghost own.after R.holds R.root own.trees i (R.versions i);
      knows = λ u l. by_equal u w (λ e. rw e own_knows) (λ ne. other_knows u (rw (← grows.p) l) ne);
    }

    settled_reached : Turned (record { world = after; outcome = outcome_of d.next })
    settled_reached h = subst (λ b. Reached p after (λ u. pick b (T u) (counts u))) (sym (not_refused d.next)) (unfold pick in moved_reached h)

  settle_reached : w < (totals_of s).p → (o : Operation) → (worker_at s w).operation ≡ Some o → (e : Decision) → decide (tables_of s) (lists_of s w (worker_at s w)) o (worker_at s w).hand ≡ e → Turned (settle s w (worker_at s w) o e)
  unfolding settle
  settle_reached l o holds None e = refused_same refusal.Crooked
  settle_reached l o holds (Some d) e = settled_reached l o holds d e

  on_reached : w < (totals_of s).p → (c : Option Operation) → (worker_at s w).operation ≡ c → Turned (step_on s w (worker_at s w) c)
  unfolding step_on
  on_reached l None e = refused_same refusal.Idle
  on_reached l (Some o) e = settle_reached l o e (decide (tables_of s) (lists_of s w (worker_at s w)) o (worker_at s w).hand) refl

  pub turn_reached : Turned (turn_of s w)
  unfolding turn_of step_of
  turn_reached = fork Turned (sound_of s)
      (λ _. fork Turned (ltb w (totals_of s).p) (λ l. on_reached (ltb-true _ _ l) (worker_at s w).operation refl) (λ _. refused_same refusal.Worker))
      (λ _. refused_same refusal.Table)
