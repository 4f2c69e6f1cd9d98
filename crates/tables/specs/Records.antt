-- A record's row: its fields, read and written by name.
use Rattle.std.specs.Prelude.{ℕ, ◌+◌, ◌*◌, List, [], ◌∷◌, ◌++◌, Bool, ◌&&◌, not, eqb, ltb}
use Rattle.shapes.specs.declared.NodeNo.{NodeNo}
use Rattle.shapes.specs.declared.RecordNo.{RecordNo}
use Rattle.shapes.specs.declared.Phase.{Phase}
use Rattle.shapes.specs.declared.Update.{Update}
use Rattle.shapes.specs.declared.Entry.{Entry}
use Rattle.shapes.specs.declared.Filling.{Filling}
use Rattle.tables.specs.Rows.{word, put_word, put_row}
use Rattle.tables.specs.Names.{node, record_no, phase, update, root, fresh_word}

-- how many nodes are listed (0: unfilled), state, par, oldChild, newChild, seq; then four times a node, its old word's type
-- and record, and whether it is to be marked
abbrev pub record_width : ℕ
record_width = 22

abbrev pub record_word : List ℕ → RecordNo → ℕ → ℕ
record_word rs r f = word record_width rs r.0 f

-- the states of line 6: ⊥, TRY, COMMIT, ABORT
abbrev pub undecided : ℕ
undecided = 0

abbrev pub trying : ℕ
trying = 1

abbrev pub committed : ℕ
committed = 2

abbrev pub aborted : ℕ
aborted = 3

unfoldable pub count_at : List ℕ → RecordNo → ℕ
count_at rs r = record_word rs r 0

unfoldable pub state_at : List ℕ → RecordNo → ℕ
state_at rs r = record_word rs r 1

unfoldable pub par_at : List ℕ → RecordNo → NodeNo
par_at rs r = node (record_word rs r 2)

unfoldable pub old_child_at : List ℕ → RecordNo → NodeNo
old_child_at rs r = node (record_word rs r 3)

unfoldable pub new_child_at : List ℕ → RecordNo → NodeNo
new_child_at rs r = node (record_word rs r 4)

unfoldable pub seq_at : List ℕ → RecordNo → Phase
seq_at rs r = phase (record_word rs r 5)

-- nodes[i], oldUpdate[i] and whether nodes[i] appears in mark; i from 1, as in the report
unfoldable pub entry_at : List ℕ → RecordNo → ℕ → Entry
entry_at rs r i = record {
  node = node (record_word rs r (i * 4 + 2));
  old = update (record_word rs r (i * 4 + 3)) (record_no (record_word rs r (i * 4 + 4)));
  mark = record_word rs r (i * 4 + 5);
}

-- ---- writing

unfoldable pub set_state : List ℕ → RecordNo → ℕ → List ℕ
set_state rs r s = put_word record_width rs r.0 1 s

unfoldable pub entry_row : Entry → List ℕ
entry_row e = e.node.0 ∷ e.old.mark ∷ e.old.info.0 ∷ e.mark ∷ []

unfoldable pub record_row : ℕ → Filling → List ℕ
record_row s f = (f.count ∷ s ∷ f.par.0 ∷ f.old.0 ∷ f.new.0 ∷ f.seq.0 ∷ []) ++ (entry_row f.first ++ (entry_row f.second ++ (entry_row f.third ++ entry_row f.fourth)))

unfoldable pub new_record : List ℕ → RecordNo → ℕ → Filling → List ℕ
new_record rs r s f = put_row record_width rs r.0 (record_row s f)

abbrev pub entry : NodeNo → Update → ℕ → Entry
entry x u m = record { node = x; old = u; mark = m }

abbrev pub no_entry : Entry
no_entry = entry root fresh_word 0

-- 01: a record taken is unfilled, with the dummy's contents
abbrev pub unfilled : Filling
unfilled = record { count = 0; par = root; old = root; new = root; seq = phase 0; first = no_entry; second = no_entry; third = no_entry; fourth = no_entry }

-- ---- what may be done with a record

-- HELP may be called: not the dummy, and filled
unfoldable pub helpable : List ℕ → RecordNo → Bool
helpable rs r = not (eqb r.0 0) && not (eqb (count_at rs r) 0)

-- line 102 may fill it: not the dummy, and not filled
unfoldable pub fillable : List ℕ → RecordNo → Bool
fillable rs r = not (eqb r.0 0) && eqb (count_at rs r) 0

-- ⊥ or TRY
unfoldable pub in_progress : ℕ → Bool
in_progress s = ltb s committed
