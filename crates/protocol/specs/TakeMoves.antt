-- The takings of `steps:Apply` on tables with room are those of the view.
use Prim.Native.Nat.{ℕ, ◌+◌, ◌≤◌, ◌<◌}
use Rattle.std.specs.Prelude.{◌≡◌, List, None, Some}
use Rattle.std.proofs.Math.Path.{refl, ap, subst}
use Rattle.std.proofs.Common.{sym, ◌∙◌, inl, inr, arith}
use Rattle.laws.specs.Choice.{fork}
use Rattle.shapes.specs.declared.NodeNo.{NodeNo}
use Rattle.shapes.specs.declared.Key.{Key}
use Rattle.shapes.specs.declared.Phase.{Phase}
use Rattle.shapes.specs.declared.Rank.{Rank}
use Rattle.shapes.specs.declared.Effect.TheVariants as effect
use Rattle.tables.specs.Names.{node, record_no, root, finite}
use Rattle.tables.specs.Rows.{HasRows}
use Rattle.tables.specs.Nodes.{node_width, kind_at, rank_at, new_node}
use Rattle.tables.specs.NodeWrites.{rows-new_node}
use Rattle.tables.specs.Records.{aborted, unfilled, new_record}
use Rattle.tables.specs.World.{Tables, tables}
use Rattle.sound.specs.Meaning.{TablesSound}
use Rattle.steps.specs.Apply.{taken, top_of, three_nodes, copy_of, taken_record, apply}
use Rattle.views.specs.View.{View, view, w_node, w_record, w_used}
use Rattle.views.specs.Effects.{view-new_node, view-new_record, view-taken}
use Rattle.protocol.specs.Ghost.{Ghost}
use Rattle.protocol.specs.Invariant.{Holds}
use Rattle.protocol.specs.Knowledge.{Taken, Made}
use Rattle.protocol.specs.Plants.{Plants}
use Rattle.protocol.specs.TakeThree.{takes-three}
use Rattle.protocol.specs.TakeCopy.{takes_copy}
use Rattle.protocol.specs.HelpTurns.{Gives}

module _ (s : Tables) (h : TablesSound s) where
  -- a record more is used, and k nodes
  taking : (ns : List ℕ) (k : ℕ) (Y : View) → s.totals.records + 1 ≤ s.totals.m → view (tables s.totals ns s.records) ≡ Y
      → view (tables (taken s.totals k) ns (taken_record s.records s.totals.records)) ≡ w_used (w_record Y s.totals.records aborted unfilled) (s.totals.nodes + k) (s.totals.records + 1)
  unfolding taken_record
  taking ns k Y room e =
      view-taken s.totals k ns (new_record s.records (record_no s.totals.records) aborted unfilled)
      ∙ ap (λ X. w_used X (s.totals.nodes + k) (s.totals.records + 1)) (view-new_record s.totals ns s.records s.totals.m h.record_rows (record_no s.totals.records) aborted unfilled (omega arith) ∙ ap (λ X. w_record X s.totals.records aborted unfilled) e)

  -- a new node behind others
  adding : (ns : List ℕ) (Y : View) → HasRows node_width ns s.totals.n → view (tables s.totals ns s.records) ≡ Y → (x kind : ℕ) (b : Rank) (q : Phase) (prev : _) (c d : ℕ) → x < s.totals.n
      → view (tables s.totals (new_node ns (node x) kind b q prev (node c) (node d)) s.records) ≡ w_node Y x (record { kind = kind; rank = b; phase = q.0; prev = prev }) c d
  adding ns Y has e x kind b q prev c d l = view-new_node s.totals ns s.records s.totals.n has (node x) kind b q prev (node c) (node d) l ∙ ap (λ X. w_node X x (record { kind = kind; rank = b; phase = q.0; prev = prev }) c d) e

  -- lines 161 to 163
  pub three_moves : (w : ℕ) (G : Ghost) (H : Holds (view s) G) (k : Key) (l : NodeNo) (q : Phase) → s.totals.nodes + 3 ≤ s.totals.n → s.totals.records + 1 ≤ s.totals.m
      → Gives w (view s) (view (apply (effect.TakeThree k l q) s)) G (λ G'. Taken w (view (apply (effect.TakeThree k l q) s)) G' s.totals.records × Plants (view (apply (effect.TakeThree k l q) s)) G' s.totals.records (s.totals.nodes + 2) l.0 q.0)
  unfolding apply three_nodes top_of view
  three_moves w G H k l q room room' = fork (λ ns. Gives w (view s) (view (tables (taken s.totals 3) ns rs)) G (λ G'. Taken w (view (tables (taken s.totals 3) ns rs)) G' s.totals.records × Plants (view (tables (taken s.totals 3) ns rs)) G' s.totals.records (u + 2) l.0 q.0)) _
      (λ _. subst (λ X. Gives w (view s) X G (λ G'. Taken w X G' s.totals.records × Plants X G' s.totals.records (u + 2) l.0 q.0)) (sym (taking _ 3 _ room' (adding two _ has2 second (u + 2) 1 b q (Some l) u (u + 1) (omega arith))))
      (takes-three (view s) _ _ _ u (u + 1) w G H l.0 q.0 (record { leaf = refl; phase = refl; no_prev = refl }) (record { leaf = refl; phase = refl; no_prev = refl }) (record { inner = refl; phase = refl; prev = refl }) (inl (refl, refl))))
      (λ _. subst (λ X. Gives w (view s) X G (λ G'. Taken w X G' s.totals.records × Plants X G' s.totals.records (u + 2) l.0 q.0)) (sym (taking _ 3 _ room' (adding two _ has2 second (u + 2) 1 (finite k) q (Some l) (u + 1) u (omega arith))))
      (takes-three (view s) _ _ _ (u + 1) u w G H l.0 q.0 (record { leaf = refl; phase = refl; no_prev = refl }) (record { leaf = refl; phase = refl; no_prev = refl }) (record { inner = refl; phase = refl; prev = refl }) (inr (refl, refl))))
    where
      u : ℕ
      u = s.totals.nodes

      rs : List ℕ
      rs = taken_record s.records s.totals.records

      b : Rank
      b = rank_at s.nodes l

      one : List ℕ
      one = new_node s.nodes (node s.totals.nodes) 0 (finite k) q None root root

      two : List ℕ
      two = new_node (new_node s.nodes (node s.totals.nodes) 0 (finite k) q None root root) (node (s.totals.nodes + 1)) 0 (rank_at s.nodes l) q None root root

      has1 : HasRows node_width (new_node s.nodes (node s.totals.nodes) 0 (finite k) q None root root) s.totals.n
      has1 = rows-new_node s.nodes (node s.totals.nodes) 0 (finite k) q None root root s.totals.n h.node-rows

      has2 : HasRows node_width two s.totals.n
      has2 = rows-new_node _ (node (s.totals.nodes + 1)) 0 (rank_at s.nodes l) q None root root s.totals.n has1

      second : view (tables s.totals two s.records) ≡ w_node (w_node (view s) s.totals.nodes (record { kind = 0; rank = finite k; phase = q.0; prev = None }) 0 0) (s.totals.nodes + 1) (record { kind = 0; rank = rank_at s.nodes l; phase = q.0; prev = None }) 0 0
      second = adding _ _ has1 (adding s.nodes (view s) h.node-rows refl s.totals.nodes 0 (finite k) q None 0 0 (omega arith)) (s.totals.nodes + 1) 0 (rank_at s.nodes l) q None 0 0 (omega arith)

  -- line 185
  pub copy_moves : (w : ℕ) (G : Ghost) (H : Holds (view s) G) (sibling p : NodeNo) (q : Phase) → s.totals.nodes + 1 ≤ s.totals.n → s.totals.records + 1 ≤ s.totals.m
      → Gives w (view s) (view (apply (effect.TakeCopy sibling p q) s)) G (λ G'. Taken w (view (apply (effect.TakeCopy sibling p q) s)) G' s.totals.records × Made (view (apply (effect.TakeCopy sibling p q) s)) G' s.totals.records s.totals.nodes × ((view (apply (effect.TakeCopy sibling p q) s)).fixed s.totals.nodes ≡ record { kind = kind_at s.nodes sibling; rank = rank_at s.nodes sibling; phase = q.0; prev = Some p }))
  unfolding apply copy_of view
  copy_moves w G H sibling p q room room' =
      subst (λ X. Gives w (view s) X G (λ G'. Taken w X G' s.totals.records × Made X G' s.totals.records s.totals.nodes × (X.fixed s.totals.nodes ≡ record { kind = kind_at s.nodes sibling; rank = rank_at s.nodes sibling; phase = q.0; prev = Some p })))
      (sym (taking _ 1 _ room' (adding s.nodes (view s) h.node-rows refl s.totals.nodes (kind_at s.nodes sibling) (rank_at s.nodes sibling) q (Some p) 0 0 (omega arith))))
      (takes_copy (view s) _ w G H)
