-- A word, a state or a record written: the tables stay sound.
use Rattle.std.specs.Prelude.{ℕ, ◌≤◌, ◌<◌, ◌≡◌, refl, ◌≢◌, List, Bool, true, false}
use Rattle.std.proofs.Common.{sym, ap, ◌∙◌, arith, eqb-true}
use Rattle.std.proofs.Math.Decide.{dec_le, ℕ_discrete}
use Rattle.shapes.specs.declared.NodeNo.{NodeNo}
use Rattle.shapes.specs.declared.RecordNo.{RecordNo}
use Rattle.shapes.specs.declared.Update.{Update}
use Rattle.shapes.specs.declared.Filling.{Filling}
use Rattle.shapes.specs.declared.Totals.{Totals}
use Rattle.tables.specs.Names.{node, record_no, root, dummy}
use Rattle.tables.specs.Nodes.{is_internal, child_at, update_at, set_child, set_update}
use Rattle.tables.specs.NodeWrites.{fixed_at, rows-set_child, fixed_set_child, update-set_child, child_set_child_case, rows-set_update, fixed_set_update, child_set_update, update-set_update_case}
use Rattle.tables.specs.Records.{undecided, aborted, count_at, state_at, set_state, new_record}
use Rattle.tables.specs.RecordWrites.{filling_at, rows-set_state, filling_set_state, state_set_state_same, state_set_state_record, rows-new_record, filling_new_record_record, state_new_record_record, filling_new_record_same, state_new_record_same}
use Rattle.tables.specs.World.{Tables, tables}
use Rattle.sound.specs.Meaning.{WordSound, NodeSound, RecordSound, TablesSound}
use Rattle.kept.specs.Later.{grows_same, KeepsFixed, record_later, KeepsCounts}
use Rattle.kept.specs.Fits.{Parent, Fillable}

-- ---- all nodes below a number

abbrev pub NodesSound : Totals → List ℕ → ℕ → Type 0
NodesSound t ns k = (n : ℕ) → n < k → NodeSound t n (fixed_at ns (node n)) (child_at ns (node n) true) (child_at ns (node n) false) (update_at ns (node n))

pub same_or_other : (k : ℕ) (Q : ℕ → Type 0) → Q k → ((n : ℕ) → n ≢ k → Q n) → (n : ℕ) → Q n
same_or_other k Q here there n = elim (dec_le n k) [
  | yes a ↦ elim (dec_le k n) [ yes b ↦ let e : n ≡ k = omega arith in rw e here | no b ↦ there n (λ e. b (omega arith)) ]
  | no a ↦ there n (λ e. a (omega arith))
]

-- ---- a child word

pub kind_one : (ns : List ℕ) (x : NodeNo) → is_internal ns x ≡ true → (fixed_at ns x).kind ≡ 1
unfolding fixed_at is_internal
kind_one ns x e = eqb-true _ _ e

module _ (s : Tables) (h : TablesSound s) (x : NodeNo) (left : Bool) (c : NodeNo) (p : Parent s x) (used : c.0 < s.totals.nodes) where
  in_rows : x.0 < s.totals.n
  in_rows = omega (arith, p.used, h.used.most_nodes)

  nodes_set_child : NodesSound s.totals (set_child s.nodes x left c) s.totals.nodes
  nodes_set_child n l =
      rw (fixed_set_child s.nodes x left c (node n), update-set_child s.nodes x left c (node n))
      (record { kind = old.kind; rank = old.rank; phase = old.phase; prev = old.prev; update = old.update; parents = λ e. (above true (old.parents e).0, above false (old.parents e).1); leaves = λ ne. (below true ne (old.leaves ne).0, below false ne (old.leaves ne).1) })
    where
      old : NodeSound s.totals n (fixed_at s.nodes (node n)) (child_at s.nodes (node n) true) (child_at s.nodes (node n) false) (update_at s.nodes (node n))
      old = h.nodes n l

      above : (side : Bool) → (child_at s.nodes (node n) side).0 < s.totals.nodes → (child_at (set_child s.nodes x left c) (node n) side).0 < s.totals.nodes
      above side k = child_set_child_case (λ d. d.0 < s.totals.nodes) s.nodes x left c s.totals.n h.node-rows in_rows (node n) side (λ e f. used) k

      below : (side : Bool) → ((fixed_at s.nodes (node n)).kind ≡ 1 → ⊥) → (child_at s.nodes (node n) side).0 ≡ 0 → (child_at (set_child s.nodes x left c) (node n) side).0 ≡ 0
      below side ne k = child_set_child_case (λ d. d.0 ≡ 0) s.nodes x left c s.totals.n h.node-rows in_rows (node n) side (λ e f. absurd (ne (rw e (kind_one s.nodes x p.internal)))) k

  keeps_set_child : KeepsFixed s.totals.nodes s.nodes (set_child s.nodes x left c)
  keeps_set_child y l = fixed_set_child s.nodes x left c y

  pub sound-set_child : TablesSound (tables s.totals (set_child s.nodes x left c) s.records)
  sound-set_child = record {
    node-rows = rows-set_child s.nodes x left c s.totals.n h.node-rows;
    record_rows = h.record_rows;
    used = h.used;
    root-row = rw (fixed_set_child s.nodes x left c root) h.root-row;
    dummy-row = h.dummy-row;
    dummy_state = h.dummy_state;
    nodes = nodes_set_child;
    records = λ n z l. record_later (grows_same s.totals) keeps_set_child (h.records n z l);
  }

-- ---- an update word

module _ (s : Tables) (h : TablesSound s) (x : NodeNo) (u : Update) (used : x.0 < s.totals.nodes) (word : WordSound s.totals u) where
  nodes_set_update : NodesSound s.totals (set_update s.nodes x u) s.totals.nodes
  nodes_set_update n l =
      rw (fixed_set_update s.nodes x u (node n), child_set_update s.nodes x u (node n) true, child_set_update s.nodes x u (node n) false)
      (record { kind = old.kind; rank = old.rank; phase = old.phase; prev = old.prev; update = update-set_update_case (WordSound s.totals) s.nodes x u s.totals.n h.node-rows (omega (arith, h.used.most_nodes)) (node n) (λ e. word) old.update; parents = old.parents; leaves = old.leaves })
    where
      old : NodeSound s.totals n (fixed_at s.nodes (node n)) (child_at s.nodes (node n) true) (child_at s.nodes (node n) false) (update_at s.nodes (node n))
      old = h.nodes n l

  pub sound-set_update : TablesSound (tables s.totals (set_update s.nodes x u) s.records)
  sound-set_update = record {
    node-rows = rows-set_update s.nodes x u s.totals.n h.node-rows;
    record_rows = h.record_rows;
    used = h.used;
    root-row = rw (fixed_set_update s.nodes x u root) h.root-row;
    dummy-row = h.dummy-row;
    dummy_state = h.dummy_state;
    nodes = nodes_set_update;
    records = λ n z l. record_later (grows_same s.totals) (λ y k. fixed_set_update s.nodes x u y) (h.records n z l);
  }

-- ---- a record's state, and a whole record

pub count_of : (rs : List ℕ) (r : RecordNo) → count_at rs r ≡ (filling_at rs r).count
unfolding filling_at
count_of rs r = refl

module _ (s : Tables) (h : TablesSound s) (r : RecordNo) (v : ℕ) (other : 0 < r.0) (used : r.0 < s.totals.records) (state : v ≤ aborted) where
  records_set_state : (n : ℕ) → 0 < n → n < s.totals.records → RecordSound s.totals s.nodes (filling_at (set_state s.records r v) (record_no n)) (state_at (set_state s.records r v) (record_no n))
  records_set_state n z l = rw (filling_set_state s.records r v (record_no n)) (record { count = old.count; state = now; par = old.par; old = old.old; new = old.new; seq = old.seq; entries = old.entries })
    where
      old : RecordSound s.totals s.nodes (filling_at s.records (record_no n)) (state_at s.records (record_no n))
      old = h.records n z l

      now : state_at (set_state s.records r v) (record_no n) ≤ aborted
      now = same_or_other r.0 (λ k. state_at s.records (record_no k) ≤ aborted → state_at (set_state s.records r v) (record_no k) ≤ aborted)
          (λ k. rw (state_set_state_same s.records r v s.totals.m h.record_rows (omega (arith, h.used.most_records))) state)
          (λ k ne o. rw (state_set_state_record s.records r v (record_no k) ne) o) n old.state

  pub sound-set_state : TablesSound (tables s.totals s.nodes (set_state s.records r v))
  sound-set_state = record {
    node-rows = h.node-rows;
    record_rows = rows-set_state s.records r v s.totals.m h.record_rows;
    used = h.used;
    root-row = h.root-row;
    dummy-row = filling_set_state s.records r v dummy ∙ h.dummy-row;
    dummy_state = state_set_state_record s.records r v dummy (λ e. let z : ◌≡◌ {A = ℕ} 0 r.0 = e in omega arith) ∙ h.dummy_state;
    nodes = h.nodes;
    records = records_set_state;
  }

  pub counts-set_state : KeepsCounts s.totals.records s.records (set_state s.records r v)
  counts-set_state q l k = count_of (set_state s.records r v) q ∙ ap (λ (f : Filling). f.count) (filling_set_state s.records r v q) ∙ sym (count_of s.records q)

module _ (s : Tables) (h : TablesSound s) (r : RecordNo) (f : Filling) (fits : Fillable s r f) where
  in_records : r.0 < s.totals.m
  in_records = omega (arith, fits.used, h.used.most_records)

  not_dummy : dummy.0 ≢ r.0
  not_dummy e = let z : ◌≡◌ {A = ℕ} 0 r.0 = e in omega (arith, fits.other)

  records_fill : (n : ℕ) → 0 < n → n < s.totals.records → RecordSound s.totals s.nodes (filling_at (new_record s.records r undecided f) (record_no n)) (state_at (new_record s.records r undecided f) (record_no n))
  records_fill = same_or_other r.0 (λ n. 0 < n → n < s.totals.records → RecordSound s.totals s.nodes (filling_at (new_record s.records r undecided f) (record_no n)) (state_at (new_record s.records r undecided f) (record_no n)))
      (λ z l. rw (filling_new_record_same s.records r undecided f s.totals.m h.record_rows in_records, state_new_record_same s.records r undecided f s.totals.m h.record_rows in_records) fits.filled)
      (λ n ne z l. rw (filling_new_record_record s.records r undecided f (record_no n) ne, state_new_record_record s.records r undecided f (record_no n) ne) (h.records n z l))

  pub sound-fill : TablesSound (tables s.totals s.nodes (new_record s.records r undecided f))
  sound-fill = record {
    node-rows = h.node-rows;
    record_rows = rows-new_record s.records r undecided f s.totals.m h.record_rows;
    used = h.used;
    root-row = h.root-row;
    dummy-row = filling_new_record_record s.records r undecided f dummy not_dummy ∙ h.dummy-row;
    dummy_state = state_new_record_record s.records r undecided f dummy not_dummy ∙ h.dummy_state;
    nodes = h.nodes;
    records = records_fill;
  }

  pub counts-fill : KeepsCounts s.totals.records s.records (new_record s.records r undecided f)
  counts-fill q l k = elim (ℕ_discrete q.0 r.0) [
    | yes e ↦ let same : q ≡ r = ap record_no e in let none : count_at s.records q ≡ 0 = rw same fits.empty in absurd (omega arith)
    | no e ↦ count_of (new_record s.records r undecided f) q ∙ ap (λ (g : Filling). g.count) (filling_new_record_record s.records r undecided f q e) ∙ sym (count_of s.records q)
  ]
