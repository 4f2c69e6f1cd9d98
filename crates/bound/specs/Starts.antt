-- A start keeps what holds after every history: nothing shared moves, and its worker knows what its first place needs.
use Rattle.std.specs.Prelude.{ℕ, ◌<◌, ◌≡◌, refl, ◌≢◌, [], eqb, ltb, Option, None, Some, Ok}
use Rattle.std.proofs.Common.{sym, subst, arith, length-set, ltb-true, eq-eqb, ne_eqb}
use Rattle.std.proofs.Math.Seq.{get_or-set_same, get_or-set_other}
use Rattle.laws.specs.Choice.{pick, pick_true, pick_false, fork}
use Rattle.laws.specs.Changed.{by_equal}
use Rattle.shapes.specs.declared.Key.{Key}
use Rattle.shapes.specs.declared.Worker.{Worker}
use Rattle.shapes.specs.declared.Place.TheVariants as place
use Rattle.shapes.specs.declared.Operation.{Operation}
use Rattle.shapes.specs.declared.Operation.TheVariants.{Insert, Delete, Find, Scan}
use Rattle.shapes.specs.declared.Refusal.{Refusal}
use Rattle.shapes.specs.declared.Refusal.TheVariants as refusal
use Rattle.tables.specs.World.{World, totals_of, tables_of, blank, idle, worker_at}
use Rattle.tables.specs.Fresh.{Left, refused}
use Rattle.sound.specs.Sound.{sound_of}
use Rattle.sound.specs.Meaning.{Sound}
use Rattle.steps.specs.Turn.{started, begin, start_of}
use Rattle.steps.specs.Kept.{is_refused}
use Rattle.views.specs.View.{View, view}
use Rattle.protocol.specs.Ghost.{Ghost}
use Rattle.protocol.specs.Waiting.{stack, waiting}
use Rattle.bound.specs.Knows.{OperationKnows, ConditionKnows, Knows}
use Rattle.bound.specs.Reached.{waiting_at, Reached}

-- a count that worker w's own call changes
pub own_count : (w a b : ℕ) → pick (eqb w w) a b ≡ a
own_count w a b = pick_true _ a b (eq-eqb w w refl)

pub other_count : (w u a b : ℕ) → u ≢ w → pick (eqb w u) a b ≡ b
other_count w u a b ne = pick_false _ a b (ne_eqb w u (λ e. ne (sym e)))

-- an operation at its first place needs to know nothing
abbrev pub Begins : Operation → Type 0
Begins o = (w : ℕ) (X : View) (G : Ghost) → OperationKnows w X G blank [] 0 0 o

pub insert-begins : (k : Key) → Begins (Insert k place.Counter74)
insert-begins k w X G = tt

pub delete-begins : (k : Key) → Begins (Delete k place.Counter74)
delete-begins k w X G = tt

pub find-begins : (k : Key) → Begins (Find k place.Counter74)
find-begins k w X G = tt

pub scan_begins : (a b : Key) → Begins (Scan a b place.Counter130)
scan_begins a b w X G = record { none_pending = refl; none_found = refl; taken = omega arith }

module _ (p : ℕ) (s : World) (T : ℕ → ℕ) (R : Reached p s T) (w : ℕ) (o : Operation) (begins : Begins o) where
  -- what a call leaves; that it is sound is known already
  abbrev pub Started : Left → Type 0
  Started l = Sound l.world → Reached p l.world (λ u. pick (is_refused l.outcome) (T u) (pick (eqb w u) 0 (T u)))

  refused_same : (r : Refusal) → Started (refused s r)
  unfolding is_refused pick
  refused_same r h = R

  module _ (in_p : w < (totals_of s).p) (rests : (worker_at s w).operation ≡ None) where
    abbrev new : Worker
    new = record { operation = Some o; hand = blank; pending = (worker_at s w).pending; found = 0 }

    none_pending : (worker_at s w).pending ≡ 0
    none_pending = subst (ConditionKnows w (view (tables_of s)) R.ghost (worker_at s w).hand (worker_at s w).pending (waiting_at s w) (worker_at s w).found (T w)) rests (R.knows w in_p)

    own_worker : worker_at (started s w (worker_at s w) o) w ≡ new
    unfolding worker_at started
    own_worker = get_or-set_same s.board.workers w _ idle (omega (arith, R.seats))

    other_worker : (u : ℕ) → u ≢ w → worker_at (started s w (worker_at s w) o) u ≡ worker_at s u
    unfolding worker_at started
    other_worker u ne = get_or-set_other s.board.workers w u _ idle ne

    -- what worker u is to know, of any count and worker
    abbrev Told : ℕ → ℕ → Worker → Type 0
    Told u n k = Knows u (view (tables_of s)) R.ghost (waiting (totals_of s) s.pending u k.pending) n k

    own_knows : Told w (pick (eqb w w) 0 (T w)) (worker_at (started s w (worker_at s w) o) w)
    own_knows =
        let empty : waiting (totals_of s) s.pending w (worker_at s w).pending ≡ [] = rw none_pending (unfold waiting stack in refl) in
        rw (own_worker, own_count w 0 (T w), empty) (begins w (view (tables_of s)) R.ghost)

    other_knows : (u : ℕ) → u < (totals_of s).p → u ≢ w → Told u (pick (eqb w u) 0 (T u)) (worker_at (started s w (worker_at s w) o) u)
    other_knows u l ne = rw (other_worker u ne, other_count w u 0 (T u) ne) (R.knows u l)

    started_reached : Started (record { world = started s w (worker_at s w) o; outcome = Ok None })
    unfolding started is_refused pick
    started_reached h = record {
      sound = h;
      workers = R.workers;
      seats = rw (length-set s.board.workers w new) R.seats;
      ghost = R.ghost;
      holds = R.holds;
      root = R.root;
      versions = R.versions;
      knows = λ u l. by_equal u w (λ e. rw e own_knows) (λ ne. other_knows u l ne);
    }

  begins_reached : w < (totals_of s).p → (c : Option Operation) → (worker_at s w).operation ≡ c → Started (begin s w (worker_at s w) o c)
  unfolding begin
  begins_reached l None e = started_reached l e
  begins_reached l (Some old) e = refused_same refusal.Busy

  pub start_reached : Started (start_of s w o)
  unfolding start_of
  start_reached = fork Started (sound_of s)
      (λ _. fork Started (ltb w (totals_of s).p) (λ l. begins_reached (ltb-true _ _ l) (worker_at s w).operation refl) (λ _. refused_same refusal.Worker))
      (λ _. refused_same refusal.Table)
