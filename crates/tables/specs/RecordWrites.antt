-- What each way of writing a record does to each field of each record: same place, other place.
use Rattle.std.specs.Prelude.{◌≡◌, refl, ◌≢◌, List, ℕ, ◌≤◌, ◌<◌, length}
use Rattle.std.proofs.Common.{◌∙◌, arith}
use Rattle.std.proofs.Math.ListN.{get_or}
use Rattle.shapes.specs.declared.RecordNo.{RecordNo}
use Rattle.shapes.specs.declared.Filling.{Filling}
use Rattle.tables.specs.Rows.{HasRows, rows-put, word-put_same, word-put-row, word-put_field, rows-put_row, word-put_row_same, word-put_row_other}
use Rattle.tables.specs.Records.{record_width, record_word, count_at, state_at, par_at, old_child_at, new_child_at, seq_at, entry_at, set_state, entry_row, record_row, new_record}

-- all of a record but its state
unfoldable pub filling_at : List ℕ → RecordNo → Filling
filling_at rs r = record {
  count = count_at rs r;
  par = par_at rs r;
  old = old_child_at rs r;
  new = new_child_at rs r;
  seq = seq_at rs r;
  first = entry_at rs r 1;
  second = entry_at rs r 2;
  third = entry_at rs r 3;
  fourth = entry_at rs r 4;
}

filling_words : (rs qs : List ℕ) (r q : RecordNo) → ((g : ℕ) → g < record_width → g ≢ 1 → record_word qs q g ≡ record_word rs r g) → filling_at qs q ≡ filling_at rs r
unfolding filling_at count_at par_at old_child_at new_child_at seq_at entry_at
filling_words rs qs r q same =
    let at : (g : ℕ) → 2 ≤ g → g < record_width → record_word qs q g ≡ record_word rs r g = λ g a b. same g b (omega arith) in
    simp (same 0 (omega arith) (omega arith), at 2 (omega arith) (omega arith), at 3 (omega arith) (omega arith), at 4 (omega arith) (omega arith), at 5 (omega arith) (omega arith), at 6 (omega arith) (omega arith), at 7 (omega arith) (omega arith), at 8 (omega arith) (omega arith), at 9 (omega arith) (omega arith), at 10 (omega arith) (omega arith), at 11 (omega arith) (omega arith), at 12 (omega arith) (omega arith), at 13 (omega arith) (omega arith), at 14 (omega arith) (omega arith), at 15 (omega arith) (omega arith), at 16 (omega arith) (omega arith), at 17 (omega arith) (omega arith), at 18 (omega arith) (omega arith), at 19 (omega arith) (omega arith), at 20 (omega arith) (omega arith), at 21 (omega arith) (omega arith))

-- ---- a state

module _ (rs : List ℕ) (r : RecordNo) (s : ℕ) where
  pub rows-set_state : (rows : ℕ) → HasRows record_width rs rows → HasRows record_width (set_state rs r s) rows
  unfolding set_state
  rows-set_state rows h = rows-put record_width rs r.0 1 s rows h

  pub filling_set_state : (q : RecordNo) → filling_at (set_state rs r s) q ≡ filling_at rs q
  unfolding set_state
  filling_set_state q = filling_words rs (set_state rs r s) q q (λ g h ne. word-put_field record_width rs r.0 1 s q.0 g (omega arith) h ne)

  pub state_set_state_same : (rows : ℕ) → HasRows record_width rs rows → r.0 < rows → state_at (set_state rs r s) r ≡ s
  unfolding state_at set_state
  state_set_state_same rows h l = word-put_same record_width rs r.0 1 s rows h l (omega arith)

  pub state_set_state_record : (q : RecordNo) → q.0 ≢ r.0 → state_at (set_state rs r s) q ≡ state_at rs q
  unfolding state_at set_state
  state_set_state_record q ne = word-put-row record_width rs r.0 1 s q.0 1 (omega arith) (omega arith) ne

-- ---- a whole record

pub record_length : (s : ℕ) (f : Filling) → length (record_row s f) ≡ record_width
unfolding record_row entry_row
record_length s f = refl

module _ (rs : List ℕ) (r : RecordNo) (s : ℕ) (f : Filling) where
  pub rows-new_record : (rows : ℕ) → HasRows record_width rs rows → HasRows record_width (new_record rs r s f) rows
  unfolding new_record
  rows-new_record rows h = rows-put_row record_width rs _ r.0 rows h

  word-new_record_record : (q : RecordNo) → q.0 ≢ r.0 → (g : ℕ) → g < record_width → record_word (new_record rs r s f) q g ≡ record_word rs q g
  unfolding new_record
  word-new_record_record q ne g h = word-put_row_other record_width rs _ r.0 q.0 g (record_length s f) h ne

  pub filling_new_record_record : (q : RecordNo) → q.0 ≢ r.0 → filling_at (new_record rs r s f) q ≡ filling_at rs q
  filling_new_record_record q ne = filling_words rs _ q q (λ g h o. word-new_record_record q ne g h)

  pub state_new_record_record : (q : RecordNo) → q.0 ≢ r.0 → state_at (new_record rs r s f) q ≡ state_at rs q
  unfolding state_at
  state_new_record_record q ne = word-new_record_record q ne 1 (omega arith)

  module _ (rows : ℕ) (has : HasRows record_width rs rows) (l : r.0 < rows) where
    word-new_record_same : (g : ℕ) → g < record_width → record_word (new_record rs r s f) r g ≡ get_or (record_row s f) g 0
    unfolding new_record
    word-new_record_same g h = word-put_row_same record_width rs _ r.0 g rows (record_length s f) has l h

    pub state_new_record_same : state_at (new_record rs r s f) r ≡ s
    unfolding state_at
    state_new_record_same = word-new_record_same 1 (omega arith) ∙ (unfold record_row entry_row in refl)

    pub filling_new_record_same : filling_at (new_record rs r s f) r ≡ f
    unfolding filling_at count_at par_at old_child_at new_child_at seq_at entry_at record_row entry_row
    filling_new_record_same =
        let at : (g : ℕ) → g < record_width → record_word (new_record rs r s f) r g ≡ get_or (record_row s f) g 0 = word-new_record_same in
        simp (at 0 (omega arith), at 2 (omega arith), at 3 (omega arith), at 4 (omega arith), at 5 (omega arith), at 6 (omega arith), at 7 (omega arith), at 8 (omega arith), at 9 (omega arith), at 10 (omega arith), at 11 (omega arith), at 12 (omega arith), at 13 (omega arith), at 14 (omega arith), at 15 (omega arith), at 16 (omega arith), at 17 (omega arith), at 18 (omega arith), at 19 (omega arith), at 20 (omega arith), at 21 (omega arith))
