-- 01, 'Refusal numbers': 1, then 3, then 4 or 5, each leaving all as before. A call that could be refused twice is refused for the first.
use Rattle.std.specs.Prelude.{◌≡◌, refl, pos, Err}
use Rattle.shapes.specs.Numbers.{refusal_number}
use Rattle.shapes.specs.declared.Key.{Key}
use Rattle.shapes.specs.declared.Place.TheVariants as place
use Rattle.shapes.specs.declared.Operation.TheVariants.{Insert, Delete, Find, Scan}
use Rattle.shapes.specs.declared.Refusal.TheVariants as refusal
use Rattle.tables.specs.Names.{key_of}
use Rattle.tables.specs.World.{World, blank}
use Rattle.tables.specs.Fresh.{refused}
use Rattle.steps.specs.Turn.{turn_of, insert_of, delete_of, find_of, scan_of, run_of}
use Rattle.steps.specs.Opened.{steps_opened}
use Rattle.steps.specs.Play.{fresh, insert, shown, show}
use Rattle.steps.proofs.Kept.{turn_keeps, start_keeps}
use Rattle.steps.specs.Hands.{with_counter, with_worker, busy}

abbrev pub five : Key
five = key_of (pos 5)

abbrev pub nine : Key
nine = key_of (pos 9)

-- three workers: 0 holds insert 5, 1 and 2 are idle; behind them, by hand, 3 holds an insert too and 4 is idle
unfoldable pub some_busy : World
some_busy = with_worker 3 (busy (Insert five place.Counter74) blank 0 0) (insert 0 (pos 5) (fresh 8 2))

-- Counter beyond its range: not sound
unfoldable pub unsound : World
unsound = with_counter 65536 some_busy

pub record Refusals : Type 0 where
  -- 1 before 3, 4 and 5
  pub table_before_worker : turn_of unsound 4 ≡ refused unsound refusal.Table
  pub table_before_idle : turn_of unsound 1 ≡ refused unsound refusal.Table
  pub table_before_busy : insert_of unsound 0 five ≡ refused unsound refusal.Table
  pub table_turn : turn_of unsound 0 ≡ refused unsound refusal.Table
  pub table_delete : delete_of unsound 1 five ≡ refused unsound refusal.Table
  pub table_find : find_of unsound 1 five ≡ refused unsound refusal.Table
  pub table_scan : scan_of unsound 1 five nine ≡ refused unsound refusal.Table
  -- 3, worker number P or more, before 4 and 5: of the places behind P nothing is asked
  pub worker_before_busy : insert_of some_busy 3 five ≡ refused some_busy refusal.Worker
  pub worker_before_idle : turn_of some_busy 4 ≡ refused some_busy refusal.Worker
  pub worker_turn : turn_of some_busy 3 ≡ refused some_busy refusal.Worker
  pub worker_delete : delete_of some_busy 3 five ≡ refused some_busy refusal.Worker
  pub worker_find : find_of some_busy 3 five ≡ refused some_busy refusal.Worker
  pub worker_scan : scan_of some_busy 3 five nine ≡ refused some_busy refusal.Worker
  pub worker_far : turn_of some_busy 4294967295 ≡ refused some_busy refusal.Worker
  -- 4, a start on a worker that holds an operation
  pub busy_insert : insert_of some_busy 0 five ≡ refused some_busy refusal.Busy
  pub busy_delete : delete_of some_busy 0 five ≡ refused some_busy refusal.Busy
  pub busy_find : find_of some_busy 0 five ≡ refused some_busy refusal.Busy
  pub busy_scan : scan_of some_busy 0 five nine ≡ refused some_busy refusal.Busy
  -- 5, a turn on an idle worker
  pub idle_turn : turn_of some_busy 1 ≡ refused some_busy refusal.Idle
  -- a run that is refused takes no turn
  pub idle_run : show (run_of 7 some_busy 1) ≡ shown (Err refusal.Idle) 0 3 1 0
  -- the numbers
  pub number1 : refusal_number refusal.Table ≡ 1
  pub number3 : refusal_number refusal.Worker ≡ 3
  pub number4 : refusal_number refusal.Busy ≡ 4
  pub number5 : refusal_number refusal.Idle ≡ 5
  pub number7 : refusal_number refusal.Crooked ≡ 7

pub refusals : Refusals
unfolding steps_opened refusal_number fresh insert show some_busy unsound
refusals = record {
  table_before_worker = turn_keeps unsound 4 refusal.Table refl;
  table_before_idle = turn_keeps unsound 1 refusal.Table refl;
  table_before_busy = start_keeps unsound 0 (Insert five place.Counter74) refusal.Table refl;
  table_turn = turn_keeps unsound 0 refusal.Table refl;
  table_delete = start_keeps unsound 1 (Delete five place.Counter74) refusal.Table refl;
  table_find = start_keeps unsound 1 (Find five place.Counter74) refusal.Table refl;
  table_scan = start_keeps unsound 1 (Scan five nine place.Counter130) refusal.Table refl;
  worker_before_busy = start_keeps some_busy 3 (Insert five place.Counter74) refusal.Worker refl;
  worker_before_idle = turn_keeps some_busy 4 refusal.Worker refl;
  worker_turn = turn_keeps some_busy 3 refusal.Worker refl;
  worker_delete = start_keeps some_busy 3 (Delete five place.Counter74) refusal.Worker refl;
  worker_find = start_keeps some_busy 3 (Find five place.Counter74) refusal.Worker refl;
  worker_scan = start_keeps some_busy 3 (Scan five nine place.Counter130) refusal.Worker refl;
  worker_far = turn_keeps some_busy 4294967295 refusal.Worker refl;
  busy_insert = start_keeps some_busy 0 (Insert five place.Counter74) refusal.Busy refl;
  busy_delete = start_keeps some_busy 0 (Delete five place.Counter74) refusal.Busy refl;
  busy_find = start_keeps some_busy 0 (Find five place.Counter74) refusal.Busy refl;
  busy_scan = start_keeps some_busy 0 (Scan five nine place.Counter130) refusal.Busy refl;
  idle_turn = turn_keeps some_busy 1 refusal.Idle refl;
  idle_run = refl;
  number1 = refl;
  number3 = refl;
  number4 = refl;
  number5 = refl;
  number7 = refl;
}
