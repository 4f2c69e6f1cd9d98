-- `dummy_word_ok` compares a word of record 0 with the dummy's: ABORT at the state, else 0 (`Dummy`).
use mathlib.Core.Path.{refl}
use native.Mathlib.Nat.{zero-add}
use Rattle.tables.specs.Rows.{word}
use Rattle.tables.specs.Records.{record_row, entry_row}
use Rattle.rows.proofs.Dummy.{dummy_else}
use Rattle.rows.proofs.record_rows.dummy_word_ok.Goals as goal

pub returns-then-f-eq-STATE : goal.returns-then-f-eq-STATE
unfolding record_row entry_row word
returns-then-f-eq-STATE c = rw (c.get-word.ensures, c.if-f-eq-STATE.true) refl

pub returns-else-f-eq-STATE : goal.returns-else-f-eq-STATE
unfolding word
returns-else-f-eq-STATE c = rw (c.get-word.ensures, zero-add, dummy_else _ c.if-f-eq-STATE.false) refl
