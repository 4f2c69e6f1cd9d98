-- Nodes and a record taken: the tables stay sound.
use Rattle.std.specs.Prelude.{ℕ, suc, ◌+◌, ◌<◌, ◌≡◌, refl, ◌≢◌, List, true, false, ltb, Option, None, Some}
use Rattle.std.proofs.Math.Path.{sym, ap, subst}
use Rattle.std.proofs.Common.{◌∙◌, add-one}
use Rattle.std.proofs.Math.Logic.{inl}
use native.Mathlib.Omega.{arith}
use Rattle.laws.specs.Choice.{fork}
use Rattle.shapes.specs.declared.NodeNo.{NodeNo}
use Rattle.shapes.specs.declared.Phase.{Phase}
use Rattle.shapes.specs.declared.Key.{Key}
use Rattle.shapes.specs.declared.Rank.{Rank}
use Rattle.shapes.specs.declared.Filling.{Filling}
use Rattle.shapes.specs.declared.Totals.{Totals}
use Rattle.tables.specs.Names.{node, record_no, root, dummy, finite, value, fresh_word}
use Rattle.tables.specs.Rows.{HasRows}
use Rattle.tables.specs.Nodes.{node_width, kind_at, rank_at, child_at, update_at, new_node}
use Rattle.tables.specs.NodeWrites.{fixed_at, rows-new_node, fixed_new_node-node, child_new_node-node, update-new_node-node, fixed_new_node_same, child_new_node-left, child_new_node_right, update-new_node_same}
use Rattle.tables.specs.Records.{aborted, state_at, new_record, unfilled}
use Rattle.tables.specs.RecordWrites.{filling_at, rows-new_record, filling_new_record_record, state_new_record_record, filling_new_record_same, state_new_record_same}
use Rattle.tables.specs.World.{Tables, tables}
use Rattle.sound.specs.Meaning.{RankSound, NodeSound, UsedSound, RecordSound, TablesSound}
use Rattle.steps.specs.Apply.{bumped, taken, top_of, three_nodes, copy_of, taken_record}
use Rattle.kept.specs.Later.{Grows, node-later, KeepsFixed, record_later, Later}
use Rattle.kept.specs.Fits.{Room}
use Rattle.kept.specs.Writes.{NodesSound, same_or_other, count_of}

-- ---- nodes and a record taken

-- one node more, made of sound parts
module _ (t : Totals) (ns : List ℕ) (u rows kind : ℕ) (k : Rank) (q : Phase) (prev : Option NodeNo) (left right : NodeNo) (has : HasRows node_width ns rows) (room : u < rows) where
  pub nodes_new : NodesSound t ns u → NodeSound t u (record { kind = kind; rank = k; phase = q.0; prev = prev }) left right fresh_word → NodesSound t (new_node ns (node u) kind k q prev left right) (suc u)
  nodes_new old new n l = same_or_other u (λ n. n < suc u → NodeSound t n (fixed_at (new_node ns (node u) kind k q prev left right) (node n)) (child_at (new_node ns (node u) kind k q prev left right) (node n) true) (child_at (new_node ns (node u) kind k q prev left right) (node n) false) (update_at (new_node ns (node u) kind k q prev left right) (node n)))
      (λ l. rw (fixed_new_node_same ns (node u) kind k q prev left right rows has room, child_new_node-left ns (node u) kind k q prev left right rows has room, child_new_node_right ns (node u) kind k q prev left right rows has room, update-new_node_same ns (node u) kind k q prev left right rows has room) new)
      (λ n ne l. rw (fixed_new_node-node ns (node u) kind k q prev left right (node n) ne, child_new_node-node ns (node u) kind k q prev left right (node n) ne true, child_new_node-node ns (node u) kind k q prev left right (node n) ne false, update-new_node-node ns (node u) kind k q prev left right (node n) ne) (old n (omega arith)))
      n l

  pub keeps_new : KeepsFixed u ns (new_node ns (node u) kind k q prev left right)
  keeps_new y l = fixed_new_node-node ns (node u) kind k q prev left right y (λ e. let z : y.0 ≡ u = e in omega arith)

-- with a record more, unfilled as the dummy is
module _ (s : Tables) (h : TablesSound s) (k : ℕ) (q : Phase) (room : Room s k q) where
  pub grows_taken : Grows s.totals (taken s.totals k)
  unfolding taken
  grows_taken = record { n = refl; m = refl; p = refl; nodes = omega arith; records = omega arith; counter = omega arith }

  used_taken : UsedSound (taken s.totals k)
  unfolding taken
  used_taken = record { least_nodes = omega (arith, h.used.least_nodes); most_nodes = room.nodes; least_records = omega (arith, h.used.least_records); most_records = room.records; counter = h.used.counter }

  record_unfilled : (ns : List ℕ) → RecordSound (taken s.totals k) ns unfilled aborted
  unfolding taken
  record_unfilled ns = record { count = inl refl; state = omega arith; par = omega (arith, h.used.least_nodes); old = omega (arith, h.used.least_nodes); new = omega (arith, h.used.least_nodes); seq = omega arith; entries = λ i l. absurd (omega arith) }

  at_record : s.totals.records < s.totals.m
  at_record = omega (arith, room.records)

  dummy_other : dummy.0 ≢ s.totals.records
  dummy_other e = let z : ◌≡◌ {A = ℕ} 0 s.totals.records = e in omega (arith, h.used.least_records)

  -- with the new nodes sound and the old ones kept
  pub sound-taken : (ns : List ℕ) → HasRows node_width ns s.totals.n → KeepsFixed s.totals.nodes s.nodes ns → NodesSound (taken s.totals k) ns (s.totals.nodes + k) → TablesSound (tables (taken s.totals k) ns (taken_record s.records s.totals.records))
  unfolding taken_record taken
  sound-taken ns has keeps nodes = record {
    node-rows = has;
    record_rows = rows-new_record s.records (record_no s.totals.records) aborted unfilled s.totals.m h.record_rows;
    used = used_taken;
    root-row = rw (keeps root (omega (arith, h.used.least_nodes))) h.root-row;
    dummy-row = filling_new_record_record s.records (record_no s.totals.records) aborted unfilled dummy dummy_other ∙ h.dummy-row;
    dummy_state = state_new_record_record s.records (record_no s.totals.records) aborted unfilled dummy dummy_other ∙ h.dummy_state;
    nodes = nodes;
    records = λ n z l. same_or_other s.totals.records (λ n. 0 < n → n < s.totals.records + 1 → RecordSound (taken s.totals k) ns (filling_at (new_record s.records (record_no s.totals.records) aborted unfilled) (record_no n)) (state_at (new_record s.records (record_no s.totals.records) aborted unfilled) (record_no n)))
        (λ z l. rw (filling_new_record_same s.records (record_no s.totals.records) aborted unfilled s.totals.m h.record_rows at_record, state_new_record_same s.records (record_no s.totals.records) aborted unfilled s.totals.m h.record_rows at_record) (record_unfilled ns))
        (λ n ne z l. rw (filling_new_record_record s.records (record_no s.totals.records) aborted unfilled (record_no n) ne, state_new_record_record s.records (record_no s.totals.records) aborted unfilled (record_no n) ne) (record_later grows_taken keeps (h.records n z (omega arith))))
        n z l;
  }

  pub later-taken : (ns : List ℕ) → Later s (tables (taken s.totals k) ns (taken_record s.records s.totals.records))
  unfolding taken_record
  later-taken ns = record { totals = grows_taken; counts = λ r l c. count_of (new_record s.records (record_no s.totals.records) aborted unfilled) r ∙ ap (λ (f : Filling). f.count) (filling_new_record_record s.records (record_no s.totals.records) aborted unfilled r (λ e. let z : r.0 ≡ s.totals.records = e in omega arith)) ∙ sym (count_of s.records r) }

-- lines 161 to 163
module _ (s : Tables) (h : TablesSound s) (k : Key) (l : NodeNo) (q : Phase) (room : Room s 3 q) (used : l.0 < s.totals.nodes) where
  grows_three : Grows s.totals (taken s.totals 3)
  grows_three = grows_taken s h 3 q room

  leaf_sound : (n : ℕ) (b : Rank) → RankSound b → NodeSound (taken s.totals 3) n (record { kind = 0; rank = b; phase = q.0; prev = None }) root root fresh_word
  unfolding taken
  leaf_sound n b r = record { kind = omega arith; rank = r; phase = room.phase; prev = tt; update = record { type = omega arith; info = omega arith }; parents = λ e. absurd (omega arith); leaves = λ ne. (refl, refl) }

  top_sound : (b : Rank) (x y : NodeNo) → RankSound b → x.0 < s.totals.nodes + 2 → y.0 < s.totals.nodes + 2 → NodeSound (taken s.totals 3) (s.totals.nodes + 2) (record { kind = 1; rank = b; phase = q.0; prev = Some l }) x y fresh_word
  unfolding taken
  top_sound b x y r i j = record { kind = omega arith; rank = r; phase = room.phase; prev = omega arith; update = record { type = omega arith; info = omega arith }; parents = λ e. (omega arith, omega arith); leaves = λ ne. absurd (ne refl) }

  finite-sound : RankSound (finite k)
  finite-sound = record { class = omega arith; word = inl refl }

  rank_of : RankSound (rank_at s.nodes l)
  unfolding fixed_at
  rank_of = (h.nodes l.0 used).rank

  -- the tables of nodes on the way
  one : List ℕ
  one = new_node s.nodes (node s.totals.nodes) 0 (finite k) q None root root

  two : List ℕ
  unfolding one
  two = new_node one (node (s.totals.nodes + 1)) 0 (rank_at s.nodes l) q None root root

  rows-one : HasRows node_width one s.totals.n
  unfolding one
  rows-one = rows-new_node s.nodes (node s.totals.nodes) 0 (finite k) q None root root s.totals.n h.node-rows

  rows-two : HasRows node_width two s.totals.n
  unfolding two
  rows-two = rows-new_node one (node (s.totals.nodes + 1)) 0 (rank_at s.nodes l) q None root root s.totals.n rows-one

  nodes_one : NodesSound (taken s.totals 3) one (s.totals.nodes + 1)
  unfolding one
  nodes_one = rw (add-one s.totals.nodes) (nodes_new (taken s.totals 3) s.nodes s.totals.nodes s.totals.n 0 (finite k) q None root root h.node-rows (omega (arith, room.nodes)) (λ n i. node-later grows_three (h.nodes n i)) (leaf_sound _ (finite k) finite-sound))

  nodes_two : NodesSound (taken s.totals 3) two (s.totals.nodes + 2)
  unfolding two
  nodes_two = subst (NodesSound (taken s.totals 3) _) (omega arith) (nodes_new (taken s.totals 3) one (s.totals.nodes + 1) s.totals.n 0 (rank_at s.nodes l) q None root root rows-one (omega (arith, room.nodes)) nodes_one (leaf_sound _ _ rank_of))

  keeps_two : KeepsFixed s.totals.nodes s.nodes two
  unfolding two one
  keeps_two y i = keeps_new (taken s.totals 3) one (s.totals.nodes + 1) s.totals.n 0 (rank_at s.nodes l) q None root root rows-one (omega (arith, room.nodes)) y (omega arith) ∙ keeps_new (taken s.totals 3) s.nodes s.totals.nodes s.totals.n 0 (finite k) q None root root h.node-rows (omega (arith, room.nodes)) y i

  -- any third node above the two
  module _ (b : Rank) (x y : NodeNo) (r : RankSound b) (i : x.0 < s.totals.nodes + 2) (j : y.0 < s.totals.nodes + 2) where
    top_kept : HasRows node_width (new_node two (node (s.totals.nodes + 2)) 1 b q (Some l) x y) s.totals.n
        × KeepsFixed s.totals.nodes s.nodes (new_node two (node (s.totals.nodes + 2)) 1 b q (Some l) x y)
        × NodesSound (taken s.totals 3) (new_node two (node (s.totals.nodes + 2)) 1 b q (Some l) x y) (s.totals.nodes + 3)
    top_kept = (
      rows-new_node two (node (s.totals.nodes + 2)) 1 b q (Some l) x y s.totals.n rows-two,
      (λ z c. keeps_new (taken s.totals 3) two (s.totals.nodes + 2) s.totals.n 1 b q (Some l) x y rows-two (omega (arith, room.nodes)) z (omega arith) ∙ keeps_two z c),
      subst (NodesSound (taken s.totals 3) _) (omega arith) (nodes_new (taken s.totals 3) two (s.totals.nodes + 2) s.totals.n 1 b q (Some l) x y rows-two (omega (arith, room.nodes)) nodes_two (top_sound b x y r i j)),
    )

  pub three_kept : HasRows node_width (three_nodes s.nodes s.totals.nodes k l q) s.totals.n
      × KeepsFixed s.totals.nodes s.nodes (three_nodes s.nodes s.totals.nodes k l q)
      × NodesSound (taken s.totals 3) (three_nodes s.nodes s.totals.nodes k l q) (s.totals.nodes + 3)
  unfolding three_nodes top_of one two
  three_kept = fork (λ ns. HasRows node_width ns s.totals.n × KeepsFixed s.totals.nodes s.nodes ns × NodesSound (taken s.totals 3) ns (s.totals.nodes + 3)) (ltb k.0 (value (rank_at s.nodes l)))
      (λ e. top_kept (rank_at s.nodes l) (node s.totals.nodes) (node (s.totals.nodes + 1)) rank_of (omega arith) (omega arith))
      (λ e. top_kept (finite k) (node (s.totals.nodes + 1)) (node s.totals.nodes) finite-sound (omega arith) (omega arith))

-- line 185
module _ (s : Tables) (h : TablesSound s) (sibling p : NodeNo) (q : Phase) (room : Room s 1 q) (used : sibling.0 < s.totals.nodes) (above : p.0 < s.totals.nodes) where
  copy_sound : NodeSound (taken s.totals 1) s.totals.nodes (record { kind = kind_at s.nodes sibling; rank = rank_at s.nodes sibling; phase = q.0; prev = Some p }) root root fresh_word
  unfolding taken fixed_at
  copy_sound =
      record { kind = (h.nodes sibling.0 used).kind; rank = (h.nodes sibling.0 used).rank; phase = room.phase; prev = above; update = record { type = omega arith; info = omega arith }; parents = λ e. (omega (arith, h.used.least_nodes), omega (arith, h.used.least_nodes)); leaves = λ ne. (refl, refl) }

  pub copy_kept : HasRows node_width (copy_of s.nodes s.totals.nodes sibling p q) s.totals.n
      × KeepsFixed s.totals.nodes s.nodes (copy_of s.nodes s.totals.nodes sibling p q)
      × NodesSound (taken s.totals 1) (copy_of s.nodes s.totals.nodes sibling p q) (s.totals.nodes + 1)
  unfolding copy_of
  copy_kept = (
    rows-new_node s.nodes (node s.totals.nodes) _ _ q (Some p) root root s.totals.n h.node-rows,
    keeps_new (taken s.totals 1) s.nodes s.totals.nodes s.totals.n _ _ q (Some p) root root h.node-rows (omega (arith, room.nodes)),
    rw (add-one s.totals.nodes) (nodes_new (taken s.totals 1) s.nodes s.totals.nodes s.totals.n _ _ q (Some p) root root h.node-rows (omega (arith, room.nodes)) (λ n i. node-later (grows_taken s h 1 q room) (h.nodes n i)) copy_sound),
  )

pub grows_bump : (s : Tables) → Grows s.totals (bumped s.totals)
unfolding bumped
grows_bump s = record { n = refl; m = refl; p = refl; nodes = omega arith; records = omega arith; counter = omega arith }
