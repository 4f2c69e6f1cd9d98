-- The calls: a turn, the four starts, and a run of up to n turns, with their refusals in 01's order.
use Rattle.std.specs.Prelude.{ℕ, zero, suc, ◌+◌, ◌-◌, List, set, ℤ, ltb, Option, None, Some, Ok, Err}
use Rattle.laws.specs.Choice.{pick}
use Rattle.shapes.specs.declared.Key.{Key}
use Rattle.shapes.specs.declared.Worker.{Worker}
use Rattle.shapes.specs.declared.Place.{Place}
use Rattle.shapes.specs.declared.Place.TheVariants as place
use Rattle.shapes.specs.declared.Operation.{Operation}
use Rattle.shapes.specs.declared.Operation.TheVariants.{Insert, Delete, Find, Scan}
use Rattle.shapes.specs.declared.PendingChange.{PendingChange}
use Rattle.shapes.specs.declared.PendingChange.TheVariants as pending
use Rattle.shapes.specs.declared.Next.{Next}
use Rattle.shapes.specs.declared.Next.TheVariants as next
use Rattle.shapes.specs.declared.Step.{Step}
use Rattle.shapes.specs.declared.Refusal.TheVariants as refusal
use Rattle.shapes.specs.Outcomes.{Decision}
use Rattle.shapes.specs.Outcomes.{Outcome}
use Rattle.tables.specs.Names.{number_of}
use Rattle.tables.specs.World.{World, totals_of, tables_of, blank, worker_at, spot, pending_at}
use Rattle.tables.specs.Fresh.{Left, refused}
use Rattle.sound.specs.Sound.{sound_of}
use Rattle.steps.specs.Scan.{Lists}
use Rattle.steps.specs.Decide.{decide}
use Rattle.steps.specs.Apply.{apply}

-- ---- what a decision makes of the worker and its lists

unfoldable pub moved : Operation → Place → Operation
moved (Insert k old) q = Insert k q
moved (Delete k old) q = Delete k q
moved (Find k old) q = Find k q
moved (Scan a b old) q = Scan a b q

unfoldable pub pending_left : ℕ → PendingChange → ℕ
pending_left n pending.Keep = n
pending_left n (pending.Push x) = n + 1
pending_left n pending.Pop = n - 1

unfoldable pub found_left : ℕ → Option Key → ℕ
found_left n None = n
found_left n (Some k) = n + 1

-- places behind a count keep their contents
unfoldable pub pushed : List ℕ → ℕ → PendingChange → List ℕ
pushed l at pending.Keep = l
pushed l at (pending.Push x) = set l at x.0
pushed l at pending.Pop = l

unfoldable pub added : List ℤ → ℕ → Option Key → List ℤ
added l at None = l
added l at (Some k) = set l at (number_of k)

-- after any answer the worker is idle with none pending, and keeps its found keys
unfoldable pub worker_next : Worker → Operation → Step → Next → Worker
worker_next k o d (next.At q) = record { operation = Some (moved o q); hand = d.hand; pending = pending_left k.pending d.pending; found = found_left k.found d.found }
worker_next k o d (next.Answers a) = record { operation = None; hand = d.hand; pending = 0; found = found_left k.found d.found }

unfoldable pub outcome_of : Next → Outcome
outcome_of (next.At q) = Ok None
outcome_of (next.Answers a) = Ok (Some a)

-- the tables, worker w and its lists anew; nothing else moves
unfoldable pub settled : World → ℕ → Worker → Operation → Step → World
settled s w k o d =
    let t = apply d.effect (tables_of s) in
    record {
      board = record { totals = t.totals; workers = set s.board.workers w (worker_next k o d d.next) };
      nodes = t.nodes;
      records = t.records;
      pending = pushed s.pending (spot (totals_of s) w k.pending) d.pending;
      found = added s.found (spot (totals_of s) w k.found) d.found;
    }

unfoldable pub settle : World → ℕ → Worker → Operation → Decision → Left
settle s w k o None = refused s refusal.Crooked
settle s w k o (Some d) = record { world = settled s w k o d; outcome = outcome_of d.next }

-- ---- the turn: refusal 1, then 3, then 5, then 7

unfoldable pub lists_of : World → ℕ → Worker → Lists
lists_of s w k = record { top = pending_at s w (k.pending - 1); pending = k.pending; found = k.found }

unfoldable pub step_on : World → ℕ → Worker → Option Operation → Left
step_on s w k None = refused s refusal.Idle
step_on s w k (Some o) = settle s w k o (decide (tables_of s) (lists_of s w k) o k.hand)

-- a turn on tables that are sound
unfoldable pub step_of : World → ℕ → Left
step_of s w = pick (ltb w (totals_of s).p) (step_on s w (worker_at s w) (worker_at s w).operation) (refused s refusal.Worker)

-- a turn on any tables: refusal 1 comes first
unfoldable pub turn_of : World → ℕ → Left
turn_of s w = pick (sound_of s) (step_of s w) (refused s refusal.Table)

-- ---- a start: refusal 1, then 3, then 4; it takes no turn, and sets the count of found keys to 0

unfoldable pub started : World → ℕ → Worker → Operation → World
started s w k o = record {
  board = record { totals = totals_of s; workers = set s.board.workers w (record { operation = Some o; hand = blank; pending = k.pending; found = 0 }) };
  nodes = s.nodes;
  records = s.records;
  pending = s.pending;
  found = s.found;
}

unfoldable pub begin : World → ℕ → Worker → Operation → Option Operation → Left
begin s w k o None = record { world = started s w k o; outcome = Ok None }
begin s w k o (Some old) = refused s refusal.Busy

unfoldable pub start_of : World → ℕ → Operation → Left
start_of s w o =
    pick (sound_of s)
    (pick (ltb w (totals_of s).p) (begin s w (worker_at s w) o (worker_at s w).operation) (refused s refusal.Worker))
    (refused s refusal.Table)

-- one start for each kind of operation
unfoldable pub insert_of : World → ℕ → Key → Left
insert_of s w k = start_of s w (Insert k place.Counter74)

unfoldable pub delete_of : World → ℕ → Key → Left
delete_of s w k = start_of s w (Delete k place.Counter74)

unfoldable pub find_of : World → ℕ → Key → Left
find_of s w k = start_of s w (Find k place.Counter74)

unfoldable pub scan_of : World → ℕ → Key → Key → Left
scan_of s w a b = start_of s w (Scan a b place.Counter130)

-- ---- a run: single turns of one worker, up to n, until an answer or a refusal; the accepted turns are counted

pub record Ran : Type 0 where
  pub world : World
  pub outcome : Outcome
  pub turns : ℕ

-- what a turn comes to, after n accepted ones; the rest of the run counts only where it goes on
unfoldable pub goes_on : Outcome → World → ℕ → Ran → Ran
goes_on (Ok None) s n rest = rest
goes_on (Ok (Some a)) s n rest = record { world = s; outcome = Ok (Some a); turns = suc n }
goes_on (Err r) s n rest = record { world = s; outcome = Err r; turns = n }

-- by a way to take a turn, where n turns were taken before
unfoldable pub run_by : (World → ℕ → Left) → ℕ → ℕ → ℕ → World → Ran
run_by turn zero n w s = record { world = s; outcome = Ok None; turns = n }
run_by turn (suc k) n w s =
    let d = turn s w in
    let rest = run_by turn k (suc n) w d.world in
    goes_on d.outcome d.world n rest

abbrev pub run_from : ℕ → ℕ → ℕ → World → Ran
run_from = run_by turn_of

unfoldable pub run_of : ℕ → World → ℕ → Ran
run_of k s w = run_from k 0 w s
