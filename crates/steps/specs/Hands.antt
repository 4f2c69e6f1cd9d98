-- Tables made by hand: one word, worker or count of a world set to something else.
use Rattle.std.specs.Prelude.{ℕ, ◌+◌, ◌*◌, replicate, take, set, pos, Option, Some}
use Rattle.shapes.specs.declared.Totals.{Totals}
use Rattle.shapes.specs.declared.Locals.{Locals}
use Rattle.shapes.specs.declared.Worker.{Worker}
use Rattle.shapes.specs.declared.Operation.{Operation}
use Rattle.shapes.specs.declared.NodeNo.{NodeNo}
use Rattle.tables.specs.Names.{node, phase, root, dummy, fresh_word}
use Rattle.tables.specs.Rows.{put_word}
use Rattle.tables.specs.Nodes.{node_width}
use Rattle.tables.specs.Records.{record_width}
use Rattle.tables.specs.World.{World, idle, spot}
use Rattle.tables.specs.Fresh.{fresh_world}

-- ---- the words of a row, as Nodes and Records list them

abbrev pub kind_word : ℕ
kind_word = 0

abbrev pub class_word : ℕ
class_word = 1

abbrev pub key_word : ℕ
key_word = 2

abbrev pub phase_word : ℕ
phase_word = 3

abbrev pub has_prev_word : ℕ
has_prev_word = 4

abbrev pub prev_word : ℕ
prev_word = 5

abbrev pub left_word : ℕ
left_word = 6

abbrev pub right_word : ℕ
right_word = 7

abbrev pub mark_word : ℕ
mark_word = 8

abbrev pub info_word : ℕ
info_word = 9

abbrev pub count_word : ℕ
count_word = 0

abbrev pub state_word : ℕ
state_word = 1

abbrev pub par_word : ℕ
par_word = 2

abbrev pub old_word : ℕ
old_word = 3

abbrev pub new_word : ℕ
new_word = 4

abbrev pub seq_word : ℕ
seq_word = 5

-- the words of entry i, from 1
abbrev pub entry_node : ℕ → ℕ
entry_node i = i * 4 + 2

abbrev pub entry_type : ℕ → ℕ
entry_type i = i * 4 + 3

abbrev pub entry_info : ℕ → ℕ
entry_info i = i * 4 + 4

abbrev pub entry_mark : ℕ → ℕ
entry_mark i = i * 4 + 5

-- ---- setting one of them

-- word f of node n is v
abbrev pub with_node : ℕ → ℕ → ℕ → World → World
with_node n f v s = record { board = s.board; nodes = put_word node_width s.nodes n f v; records = s.records; pending = s.pending; found = s.found }

-- word f of record r is v
abbrev pub with_record : ℕ → ℕ → ℕ → World → World
with_record r f v s = record { board = s.board; nodes = s.nodes; records = put_word record_width s.records r f v; pending = s.pending; found = s.found }

abbrev pub with_totals : Totals → World → World
with_totals t s = record { board = record { totals = t; workers = s.board.workers }; nodes = s.nodes; records = s.records; pending = s.pending; found = s.found }

abbrev pub with_counter : ℕ → World → World
with_counter c s =
    let t = s.board.totals in
    with_totals (record { n = t.n; m = t.m; p = t.p; nodes = t.nodes; records = t.records; counter = c }) s

-- so many nodes and records are used
abbrev pub with_used : ℕ → ℕ → World → World
with_used a b s =
    let t = s.board.totals in
    with_totals (record { n = t.n; m = t.m; p = t.p; nodes = a; records = b; counter = t.counter }) s

abbrev pub with_worker : ℕ → Worker → World → World
with_worker w k s = record { board = record { totals = s.board.totals; workers = set s.board.workers w k }; nodes = s.nodes; records = s.records; pending = s.pending; found = s.found }

-- place i of worker w's pending list holds node x
abbrev pub with_pending : ℕ → ℕ → ℕ → World → World
with_pending w i x s = record { board = s.board; nodes = s.nodes; records = s.records; pending = set s.pending (spot s.board.totals w i) x; found = s.found }

-- ---- workers

-- so many pending and so many found
abbrev pub busy : Operation → Locals → ℕ → ℕ → Worker
busy o v pending found = record { operation = Some o; hand = v; pending = pending; found = found }

-- worker 0 holds the operation o with v in hand, none pending and none found
abbrev pub doing : Operation → Locals → World → World
doing o v s = with_worker 0 (busy o v 0 0) s

-- ---- hands

-- phase 0, gp, p and l; nothing else read
abbrev pub hand : Option NodeNo → ℕ → ℕ → Locals
hand gp p l = record { seq = phase 0; gp = gp; p = node p; l = node l; gpup = fresh_word; pup = fresh_word; lup = fresh_word; sup = fresh_word; up = fresh_word; sibling = root; made = root; info = dummy; i = 0 }

abbrev pub with_seq : Locals → ℕ → Locals
with_seq v q = record { seq = phase q; gp = v.gp; p = v.p; l = v.l; gpup = v.gpup; pup = v.pup; lup = v.lup; sup = v.sup; up = v.up; sibling = v.sibling; made = v.made; info = v.info; i = v.i }

-- ---- tables lent exactly as long as N, M and P ask

abbrev pub exactly : ℕ → ℕ → ℕ → World
exactly n m p = fresh_world n m p (record {
  board = record { totals = record { n = 9; m = 9; p = 9; nodes = 9; records = 9; counter = 9 }; workers = replicate 8 idle };
  nodes = replicate (n * node_width) 9;
  records = replicate (m * record_width) 9;
  pending = replicate (p * n) 9;
  found = replicate (p * n) (pos 9);
})

-- the lent tables cut to these lengths
abbrev pub cut : ℕ → ℕ → ℕ → ℕ → World → World
cut a b c d s = record { board = s.board; nodes = take a s.nodes; records = take b s.records; pending = take c s.pending; found = take d s.found }
