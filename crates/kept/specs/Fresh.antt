-- Fresh tables are sound.
use Rattle.std.specs.Prelude.{ℕ, ◌*◌, ◌-◌, ◌≤◌, ◌<◌, ◌≡◌, refl, List, true, ◌&&◌, length, get_or, drop, replicate, None}
use Rattle.std.proofs.Common.{◌∙◌, inr, length-append, length-drop}
use native.Mathlib.Omega.{arith}
use Rattle.std.proofs.lemmas.List.{length-replicate, get_or-replicate}
use Rattle.std.proofs.Math.ListN.{get_or-append}
use Rattle.laws.specs.Choice.{pick}
use Rattle.laws.specs.Tests.{says_and}
use Rattle.shapes.specs.declared.NodeNo.{NodeNo}
use Rattle.shapes.specs.declared.Totals.{Totals}
use Rattle.tables.specs.Names.{node, phase, root, dummy, infinite, fresh_word}
use Rattle.tables.specs.Rows.{HasRows}
use Rattle.tables.specs.Nodes.{node_width, new_node}
use Rattle.tables.specs.NodeWrites.{fixed_at, rows-new_node, fixed_new_node_same}
use Rattle.tables.specs.Records.{record_width, aborted, unfilled}
use Rattle.tables.specs.RecordWrites.{rows-new_record, filling_new_record_same, state_new_record_same}
use Rattle.tables.specs.World.{World, tables_of, idle, worker_at}
use Rattle.tables.specs.Fresh.{sizes_ok, lent_ok, cleared, fresh_nodes, fresh_records, fresh_board, fresh_world, fresh_of}
use Rattle.sound.specs.Sound.{sound_of}
use Rattle.sound.specs.Meaning.{WordSound, RankSound, NodeSound, RootSound, SizesSound, WorkerSound, TablesSound, Sound}
use Rattle.sound.specs.Agree.{says_sizes, says-lent, says-sound}
use Rattle.kept.specs.Writes.{NodesSound}
use Rattle.kept.specs.Takings.{nodes_new, keeps_new}

-- ---- cleared lists

length-cleared : {A : Type 0} (k : ℕ) (z : A) (l : List A) → k ≤ length l → length (cleared k z l) ≡ length l
unfolding cleared
length-cleared k z l h = simp (length-append, length-replicate, length-drop) (omega arith)

get_or-cleared : {A : Type 0} (k : ℕ) (z : A) (l : List A) (i : ℕ) → i < k → get_or (cleared k z l) i z ≡ z
unfolding cleared
get_or-cleared k z l i h = get_or-append (replicate k z) (drop k l) z i (rw (length-replicate k z) h) ∙ get_or-replicate k i z z h

-- ---- the three nodes

module _ (n m p : ℕ) (s : World) (sizes : SizesSound n m p) (node-room : HasRows node_width s.nodes n) (record-room : HasRows record_width s.records m) (pending_room : p * n ≤ length s.pending) (found_room : p * n ≤ length s.found) where
  t : Totals
  t = record { n = n; m = m; p = p; nodes = 3; records = 1; counter = 0 }

  infinite-sound : (class : ℕ) → class ≤ 2 → RankSound (infinite class)
  infinite-sound class h = record { class = h; word = inr refl }

  word_sound : WordSound t fresh_word
  unfolding t
  word_sound = record { type = omega arith; info = omega arith }

  root-sound : NodeSound t 0 (record { kind = 1; rank = infinite 2; phase = 0; prev = None }) (node 1) (node 2) fresh_word
  unfolding t
  root-sound = record { kind = omega arith; rank = infinite-sound 2 (omega arith); phase = omega arith; prev = tt; update = word_sound; parents = λ e. (omega arith, omega arith); leaves = λ ne. absurd (ne refl) }

  leaf_sound : (x class : ℕ) → class ≤ 2 → NodeSound t x (record { kind = 0; rank = infinite class; phase = 0; prev = None }) root root fresh_word
  unfolding t
  leaf_sound x class h = record { kind = omega arith; rank = infinite-sound class h; phase = omega arith; prev = tt; update = word_sound; parents = λ e. absurd (omega arith); leaves = λ ne. (refl, refl) }

  empty : List ℕ
  empty = cleared (n * node_width) 0 s.nodes

  one : List ℕ
  unfolding empty
  one = new_node empty root 1 (infinite 2) (phase 0) None (node 1) (node 2)

  two : List ℕ
  unfolding one
  two = new_node one (node 1) 0 (infinite 1) (phase 0) None root root

  rows_empty : HasRows node_width empty n
  unfolding empty HasRows
  rows_empty = rw (length-cleared (n * node_width) 0 s.nodes (unfold HasRows in node-room)) (unfold HasRows in node-room)

  rows-one : HasRows node_width one n
  unfolding one
  rows-one = rows-new_node empty root 1 (infinite 2) (phase 0) None (node 1) (node 2) n rows_empty

  rows-two : HasRows node_width two n
  unfolding two
  rows-two = rows-new_node one (node 1) 0 (infinite 1) (phase 0) None root root n rows-one

  rows-fresh : HasRows node_width (fresh_nodes n s.nodes) n
  unfolding fresh_nodes two one empty
  rows-fresh = rows-new_node two (node 2) 0 (infinite 2) (phase 0) None root root n rows-two

  nodes_fresh : NodesSound t (fresh_nodes n s.nodes) 3
  unfolding fresh_nodes two one empty
  nodes_fresh =
      nodes_new t two 2 n 0 (infinite 2) (phase 0) None root root rows-two (omega (arith, sizes.n_at_least))
      (nodes_new t one 1 n 0 (infinite 1) (phase 0) None root root rows-one (omega (arith, sizes.n_at_least))
      (nodes_new t empty 0 n 1 (infinite 2) (phase 0) None (node 1) (node 2) rows_empty (omega (arith, sizes.n_at_least)) (λ k l. absurd (omega arith)) root-sound)
      (leaf_sound 1 1 (omega arith)))
      (leaf_sound 2 2 (omega arith))

  fixed_root : fixed_at (fresh_nodes n s.nodes) root ≡ record { kind = 1; rank = infinite 2; phase = 0; prev = None }
  unfolding fresh_nodes two one empty
  fixed_root =
      keeps_new t two 2 n 0 (infinite 2) (phase 0) None root root rows-two (omega (arith, sizes.n_at_least)) root (omega arith)
      ∙ keeps_new t one 1 n 0 (infinite 1) (phase 0) None root root rows-one (omega (arith, sizes.n_at_least)) root (omega arith)
      ∙ fixed_new_node_same empty root 1 (infinite 2) (phase 0) None (node 1) (node 2) n rows_empty (omega (arith, sizes.n_at_least))

  root-fresh : RootSound (fixed_at (fresh_nodes n s.nodes) root)
  root-fresh = rw fixed_root (record { kind = refl; class = refl; word = refl; phase = refl; prev = refl })

  -- ---- the dummy

  rows-cleared : HasRows record_width (cleared (m * record_width) 0 s.records) m
  unfolding HasRows
  rows-cleared = rw (length-cleared (m * record_width) 0 s.records (unfold HasRows in record-room)) (unfold HasRows in record-room)

  shared-fresh : TablesSound (tables_of (fresh_world n m p s))
  unfolding fresh_world fresh_board fresh_records t
  shared-fresh = record {
    node-rows = rows-fresh;
    record_rows = rows-new_record _ dummy aborted unfilled m rows-cleared;
    used = record { least_nodes = omega arith; most_nodes = omega (arith, sizes.n_at_least); least_records = omega arith; most_records = omega (arith, sizes.m_at_least); counter = omega arith };
    root-row = root-fresh;
    dummy-row = filling_new_record_same _ dummy aborted unfilled m rows-cleared (omega (arith, sizes.m_at_least));
    dummy_state = state_new_record_same _ dummy aborted unfilled m rows-cleared (omega (arith, sizes.m_at_least));
    nodes = nodes_fresh;
    records = λ k z l. absurd (omega arith);
  }

  -- ---- the workers

  idle-sound : (rs : List ℕ) (pending : ℕ → NodeNo) → WorkerSound t rs pending idle
  unfolding t
  idle-sound rs pending = record {
    most_pending = omega arith;
    most_found = omega arith;
    pending_used = λ i l. absurd (omega arith);
    hand = record { seq = omega arith; gp = tt; p = omega arith; l = omega arith; gpup = word_sound; pup = word_sound; lup = word_sound; sup = word_sound; up = word_sound; sibling = omega arith; made = omega arith; info = omega arith };
    place = tt;
  }

  pub world-fresh : Sound (fresh_world n m p s)
  unfolding fresh_world fresh_board t
  world-fresh = record {
    sizes = sizes;
    pending_lent = rw (length-cleared (p * n) 0 s.pending pending_room) pending_room;
    found_lent = rw (length-cleared (p * n) (lib.IntN.pos 0) s.found found_room) found_room;
    shared = shared-fresh;
    workers = λ w l. unfold worker_at in rw (get_or-cleared p idle s.board.workers w l) (idle-sound _ _);
  }

-- made for sizes in range in tables lent long enough
pub fresh-sound : (n m p : ℕ) (s : World) → (sizes_ok n m p && lent_ok n m p s) ≡ true → sound_of (fresh_of n m p s).world ≡ true
unfolding fresh_of
fresh-sound n m p s e =
    let both = (says_and (says_sizes n m p) (says-lent n m p s)).out e in
    let made : Sound (fresh_world n m p s) = world-fresh n m p s both.0 both.1.0 both.1.1 both.1.2 both.1.3 in
    rw e (unfold pick in (says-sound _).back made)
