-- What each effect does, as the view sees it.
use Rattle.std.specs.Prelude.{ℕ, ◌+◌, ◌<◌, ◌≡◌, ◌≢◌, List, Bool, Option}
use Rattle.std.proofs.Math.Path.{refl, sym, ap, fun_ext}
use Rattle.std.proofs.Common.{◌∙◌}
use Rattle.std.proofs.Math.Bool.{true, false, false≢true}
use Rattle.laws.specs.Changed.{change_is, change_on, change_on_is, change_on_same, change_on_other, by_equal}
use Rattle.shapes.specs.declared.NodeNo.{NodeNo}
use Rattle.shapes.specs.declared.RecordNo.{RecordNo}
use Rattle.shapes.specs.declared.Phase.{Phase}
use Rattle.shapes.specs.declared.Rank.{Rank}
use Rattle.shapes.specs.declared.Update.{Update}
use Rattle.shapes.specs.declared.Filling.{Filling}
use Rattle.shapes.specs.declared.Totals.{Totals}
use Rattle.tables.specs.Names.{node, record_no, fresh_word}
use Rattle.tables.specs.Rows.{HasRows}
use Rattle.tables.specs.Nodes.{node_width, child_at, set_child, set_update, new_node}
use Rattle.tables.specs.NodeWrites.{fixed_set_child, update-set_child, child_set_child_same, child_set_child-node, child_set_child-side, child_set_child_side', fixed_set_update, child_set_update, update-set_update_same, update-set_update-node, fixed_new_node-node, child_new_node-node, update-new_node-node, fixed_new_node_same, child_new_node-left, child_new_node_right, update-new_node_same}
use Rattle.tables.specs.Records.{record_width, set_state, new_record}
use Rattle.tables.specs.RecordWrites.{filling_set_state, state_set_state_same, state_set_state_record, filling_new_record_record, state_new_record_record, filling_new_record_same, state_new_record_same}
use Rattle.tables.specs.World.{tables}
use Rattle.steps.specs.Apply.{taken}
use Rattle.views.specs.View.{View, view, w_update, w_kid, w_state, w_record, w_node, w_used}

-- two views are equal where their parts are
view_is : (X Y : View) → X.update ≡ Y.update → X.fixed ≡ Y.fixed → X.kid ≡ Y.kid → X.state ≡ Y.state → X.filling ≡ Y.filling → X.nodes ≡ Y.nodes → X.records ≡ Y.records → X.counter ≡ Y.counter → X ≡ Y
view_is X Y a b c d e f g h = λ i. record { update = a i; fixed = b i; kid = c i; state = d i; filling = e i; nodes = f i; records = g i; counter = h i }

module _ (t : Totals) (ns rs : List ℕ) (rows : ℕ) (has : HasRows node_width ns rows) where
  pub view-set_update : (x : NodeNo) (u : Update) → x.0 < rows → view (tables t (set_update ns x u) rs) ≡ w_update (view (tables t ns rs)) x.0 u
  unfolding view
  view-set_update x u l = view_is _ _
      (change_is _ _ x.0 u (update-set_update_same ns x u rows has l) (λ n ne. update-set_update-node ns x u (node n) ne))
      (fun_ext (λ n. fixed_set_update ns x u (node n)))
      (fun_ext (λ s. fun_ext (λ n. ap (λ (c : NodeNo). c.0) (child_set_update ns x u (node n) s))))
      refl refl refl refl refl

  pub view-set_child : (x : NodeNo) (left : Bool) (c : NodeNo) → x.0 < rows → view (tables t (set_child ns x left c) rs) ≡ w_kid (view (tables t ns rs)) left x.0 c.0
  unfolding view
  view-set_child x left c l = view_is _ _ (fun_ext (λ n. update-set_child ns x left c (node n))) (fun_ext (λ n. fixed_set_child ns x left c (node n)))
      (change_on_is (λ s n. (child_at ns (node n) s).0) left x.0 c.0 _ (ap (λ (y : NodeNo). y.0) (child_set_child_same ns x left c rows has l)) (λ s n ne. ap (λ (y : NodeNo). y.0) (elsewhere left s n ne)))
      refl refl refl refl refl
    where
      elsewhere : (d s : Bool) (n : ℕ) → (s ≡ d → n ≡ x.0 → ⊥) → child_at (set_child ns x d c) (node n) s ≡ child_at ns (node n) s
      elsewhere true true n ne = child_set_child-node ns x true c (node n) true (ne refl)
      elsewhere false false n ne = child_set_child-node ns x false c (node n) false (ne refl)
      elsewhere true false n ne = child_set_child-side ns x c (node n)
      elsewhere false true n ne = child_set_child_side' ns x c (node n)

  pub view-new_node : (x : NodeNo) (kind : ℕ) (k : Rank) (q : Phase) (prev : Option NodeNo) (left right : NodeNo) → x.0 < rows → view (tables t (new_node ns x kind k q prev left right) rs) ≡ w_node (view (tables t ns rs)) x.0 (record { kind = kind; rank = k; phase = q.0; prev = prev }) left.0 right.0
  unfolding view
  view-new_node x kind k q prev left right l = view_is _ _
      (change_is _ _ x.0 fresh_word (update-new_node_same ns x kind k q prev left right rows has l) (λ n ne. update-new_node-node ns x kind k q prev left right (node n) ne))
      (change_is _ _ x.0 _ (fixed_new_node_same ns x kind k q prev left right rows has l) (λ n ne. fixed_new_node-node ns x kind k q prev left right (node n) ne))
      (change_on_is (change_on (λ s n. (child_at ns (node n) s).0) true x.0 left.0) false x.0 right.0 _ (ap (λ (y : NodeNo). y.0) (child_new_node_right ns x kind k q prev left right rows has l)) elsewhere)
      refl refl refl refl refl
    where
      elsewhere : (s : Bool) (n : ℕ) → (s ≡ false → n ≡ x.0 → ⊥) → (child_at (new_node ns x kind k q prev left right) (node n) s).0 ≡ change_on (λ s n. (child_at ns (node n) s).0) true x.0 left.0 s n
      elsewhere false n ne = ap (λ (y : NodeNo). y.0) (child_new_node-node ns x kind k q prev left right (node n) (ne refl) false) ∙ sym (change_on_other (λ s n. (child_at ns (node n) s).0) true x.0 left.0 false n (λ e d. false≢true e))
      elsewhere true n ne = by_equal n x.0
          (λ e. rw e (ap (λ (y : NodeNo). y.0) (child_new_node-left ns x kind k q prev left right rows has l) ∙ sym (change_on_same (λ s n. (child_at ns (node n) s).0) true x.0 left.0)))
          (λ e. ap (λ (y : NodeNo). y.0) (child_new_node-node ns x kind k q prev left right (node n) e true) ∙ sym (change_on_other (λ s n. (child_at ns (node n) s).0) true x.0 left.0 true n (λ _ d. e d)))

module _ (t : Totals) (ns rs : List ℕ) (rows : ℕ) (has : HasRows record_width rs rows) where
  pub view-set_state : (r : RecordNo) (v : ℕ) → r.0 < rows → view (tables t ns (set_state rs r v)) ≡ w_state (view (tables t ns rs)) r.0 v
  unfolding view
  view-set_state r v l = view_is _ _ refl refl refl
      (change_is _ _ r.0 v (state_set_state_same rs r v rows has l) (λ n ne. state_set_state_record rs r v (record_no n) ne))
      (fun_ext (λ n. filling_set_state rs r v (record_no n)))
      refl refl refl

  pub view-new_record : (r : RecordNo) (v : ℕ) (f : Filling) → r.0 < rows → view (tables t ns (new_record rs r v f)) ≡ w_record (view (tables t ns rs)) r.0 v f
  unfolding view
  view-new_record r v f l = view_is _ _ refl refl refl
      (change_is _ _ r.0 v (state_new_record_same rs r v f rows has l) (λ n ne. state_new_record_record rs r v f (record_no n) ne))
      (change_is _ _ r.0 f (filling_new_record_same rs r v f rows has l) (λ n ne. filling_new_record_record rs r v f (record_no n) ne))
      refl refl refl

-- ---- Counter, and the takings

pub view-taken : (t : Totals) (k : ℕ) (ns rs : List ℕ) → view (tables (taken t k) ns rs) ≡ w_used (view (tables t ns rs)) (t.nodes + k) (t.records + 1)
unfolding view taken
view-taken t k ns rs = refl
