-- What each way of writing a node does to each field of each node: same place, other place.
use Rattle.std.proofs.Math.Path.{◌≡◌, refl, ap, ap₂}
use Rattle.std.proofs.Common.{sym, ◌∙◌, subst}
use Rattle.std.specs.Prelude.{◌≢◌, List, Bool, ℕ, ◌≤◌, ◌<◌, length, Option, None, Some}
use Rattle.std.proofs.Math.Bool.{true, false}
use native.Mathlib.Omega.{arith}
use Rattle.std.proofs.Math.Decide.{ℕ_discrete}
use Rattle.std.proofs.Math.ListN.{get_or}
use Rattle.laws.specs.Choice.{pick}
use Rattle.shapes.specs.declared.NodeNo.{NodeNo}
use Rattle.shapes.specs.declared.Rank.{Rank}
use Rattle.shapes.specs.declared.Update.{Update}
use Rattle.shapes.specs.declared.Phase.{Phase}
use Rattle.tables.specs.Names.{node, record_no, update, fresh_word}
use Rattle.tables.specs.Rows.{word, HasRows, rows-put, word-put_same, word-put-row, word-put_field, rows-put_row, word-put_row_same, word-put_row_other}
use Rattle.tables.specs.Nodes.{node_width, node_word, kind_at, rank_at, phase_at, prev_at, side, child_at, update_at, set_child, set_update, new_row, new_node}

-- the fields of a node that never change once it is made
pub record Fixed : Type 0 where
  pub kind : ℕ
  pub rank : Rank
  pub phase : ℕ
  pub prev : Option NodeNo

unfoldable pub fixed_at : List ℕ → NodeNo → Fixed
fixed_at ns x = record { kind = kind_at ns x; rank = rank_at ns x; phase = (phase_at ns x).0; prev = prev_at ns x }

-- two tables of nodes with the same words in row y up to field 5
fixed_words : (ns ms : List ℕ) (y : NodeNo) → ((g : ℕ) → g < 6 → node_word ms y g ≡ node_word ns y g) → fixed_at ms y ≡ fixed_at ns y
unfolding fixed_at kind_at rank_at phase_at prev_at
fixed_words ns ms y same = simp (same 0 (omega arith), same 1 (omega arith), same 2 (omega arith), same 3 (omega arith), same 4 (omega arith), same 5 (omega arith))

children_words : (ns ms : List ℕ) (x y : NodeNo) → ((g : ℕ) → g < node_width → node_word ms y g ≡ node_word ns x g) → (left : Bool) → child_at ms y left ≡ child_at ns x left
unfolding child_at side
children_words ns ms x y same true = ap node (same 6 (omega arith))
children_words ns ms x y same false = ap node (same 7 (omega arith))

update_words : (ns ms : List ℕ) (x y : NodeNo) → ((g : ℕ) → g < node_width → node_word ms y g ≡ node_word ns x g) → update_at ms y ≡ update_at ns x
unfolding update_at
update_words ns ms x y same = ap₂ (λ a b. update a (record_no b)) (same 8 (omega arith)) (same 9 (omega arith))

side-below : (left : Bool) → side left < node_width
unfolding side
side-below true = omega arith
side-below false = omega arith

side_fixed : (left : Bool) (g : ℕ) → g < 6 → g ≢ side left
unfolding side
side_fixed true g h e = omega arith
side_fixed false g h e = omega arith

-- ---- a child word

module _ (ns : List ℕ) (x : NodeNo) (left : Bool) (c : NodeNo) where
  pub rows-set_child : (rows : ℕ) → HasRows node_width ns rows → HasRows node_width (set_child ns x left c) rows
  unfolding set_child
  rows-set_child rows h = rows-put node_width ns x.0 (side left) c.0 rows h

  word-set_child : (y : NodeNo) (g : ℕ) → g < node_width → g ≢ side left → node_word (set_child ns x left c) y g ≡ node_word ns y g
  unfolding set_child
  word-set_child y g h ne = word-put_field node_width ns x.0 (side left) c.0 y.0 g (side-below left) h ne

  pub fixed_set_child : (y : NodeNo) → fixed_at (set_child ns x left c) y ≡ fixed_at ns y
  fixed_set_child y = fixed_words ns (set_child ns x left c) y (λ g h. word-set_child y g (omega arith) (side_fixed left g h))

  pub update-set_child : (y : NodeNo) → update_at (set_child ns x left c) y ≡ update_at ns y
  unfolding update_at side
  update-set_child y = ap₂ (λ a b. update a (record_no b)) (word-set_child y 8 (omega arith) (off left 8 (omega arith))) (word-set_child y 9 (omega arith) (off left 9 (omega arith)))
    where
      off : (l : Bool) (g : ℕ) → 8 ≤ g → g ≢ side l
      off true g h e = omega arith
      off false g h e = omega arith

  pub child_set_child_same : (rows : ℕ) → HasRows node_width ns rows → x.0 < rows → child_at (set_child ns x left c) x left ≡ c
  unfolding child_at set_child
  child_set_child_same rows r h = ap node (word-put_same node_width ns x.0 (side left) c.0 rows r h (side-below left))

  pub child_set_child-node : (y : NodeNo) (s : Bool) → y.0 ≢ x.0 → child_at (set_child ns x left c) y s ≡ child_at ns y s
  unfolding child_at set_child
  child_set_child-node y s ne = ap node (word-put-row node_width ns x.0 (side left) c.0 y.0 (side s) (side-below left) (side-below s) ne)

-- the other child of the node stays
pub child_set_child-side : (ns : List ℕ) (x c y : NodeNo) → child_at (set_child ns x true c) y false ≡ child_at ns y false
unfolding child_at set_child side
child_set_child-side ns x c y = ap node (word-put_field node_width ns x.0 6 c.0 y.0 7 (omega arith) (omega arith) (omega arith))

pub child_set_child_side' : (ns : List ℕ) (x c y : NodeNo) → child_at (set_child ns x false c) y true ≡ child_at ns y true
unfolding child_at set_child side
child_set_child_side' ns x c y = ap node (word-put_field node_width ns x.0 7 c.0 y.0 6 (omega arith) (omega arith) (omega arith))

-- what holds of the child that was set, there, and of every child before, holds of every child after
pub child_set_child_case : (Q : NodeNo → Type 0) (ns : List ℕ) (x : NodeNo) (left : Bool) (c : NodeNo) (rows : ℕ) → HasRows node_width ns rows → x.0 < rows → (y : NodeNo) (s : Bool) → (y ≡ x → s ≡ left → Q c) → Q (child_at ns y s) → Q (child_at (set_child ns x left c) y s)
child_set_child_case Q ns x left c rows r h y s set old = elim (ℕ_discrete y.0 x.0) [ yes e ↦ there s left (ap node e) set old | no e ↦ subst Q (sym (child_set_child-node ns x left c y s e)) old ]
  where
    there : (s left : Bool) → y ≡ x → (y ≡ x → s ≡ left → Q c) → Q (child_at ns y s) → Q (child_at (set_child ns x left c) y s)
    there true true e f q = rw e (subst Q (sym (child_set_child_same ns x true c rows r h)) (f e refl))
    there false false e f q = rw e (subst Q (sym (child_set_child_same ns x false c rows r h)) (f e refl))
    there false true e f q = subst Q (sym (child_set_child-side ns x c y)) q
    there true false e f q = subst Q (sym (child_set_child_side' ns x c y)) q

-- ---- an update word

module _ (ns : List ℕ) (x : NodeNo) (u : Update) where
  pub rows-set_update : (rows : ℕ) → HasRows node_width ns rows → HasRows node_width (set_update ns x u) rows
  unfolding set_update
  rows-set_update rows h = rows-put node_width _ x.0 9 u.info.0 rows (rows-put node_width ns x.0 8 u.mark rows h)

  word-set_update : (y : NodeNo) (g : ℕ) → g < 8 → node_word (set_update ns x u) y g ≡ node_word ns y g
  unfolding set_update
  word-set_update y g h = word-put_field node_width _ x.0 9 u.info.0 y.0 g (omega arith) (omega arith) (omega arith) ∙ word-put_field node_width ns x.0 8 u.mark y.0 g (omega arith) (omega arith) (omega arith)

  pub fixed_set_update : (y : NodeNo) → fixed_at (set_update ns x u) y ≡ fixed_at ns y
  fixed_set_update y = fixed_words ns (set_update ns x u) y (λ g h. word-set_update y g (omega arith))

  pub child_set_update : (y : NodeNo) (left : Bool) → child_at (set_update ns x u) y left ≡ child_at ns y left
  unfolding child_at side
  child_set_update y true = ap node (word-set_update y 6 (omega arith))
  child_set_update y false = ap node (word-set_update y 7 (omega arith))

  pub update-set_update_same : (rows : ℕ) → HasRows node_width ns rows → x.0 < rows → update_at (set_update ns x u) x ≡ u
  unfolding update_at set_update
  update-set_update_same rows r h = ap₂ (λ a b. update a (record_no b))
      (word-put_field node_width _ x.0 9 u.info.0 x.0 8 (omega arith) (omega arith) (omega arith) ∙ word-put_same node_width ns x.0 8 u.mark rows r h (omega arith))
      (word-put_same node_width _ x.0 9 u.info.0 rows (rows-put node_width ns x.0 8 u.mark rows r) h (omega arith))

  pub update-set_update-node : (y : NodeNo) → y.0 ≢ x.0 → update_at (set_update ns x u) y ≡ update_at ns y
  unfolding update_at set_update
  update-set_update-node y ne = ap₂ (λ a b. update a (record_no b)) (other 8 (omega arith)) (other 9 (omega arith))
    where
      other : (g : ℕ) → g < node_width → node_word (set_update ns x u) y g ≡ node_word ns y g
      other g h = word-put-row node_width _ x.0 9 u.info.0 y.0 g (omega arith) h ne ∙ word-put-row node_width ns x.0 8 u.mark y.0 g (omega arith) h ne

pub update-set_update_case : (Q : Update → Type 0) (ns : List ℕ) (x : NodeNo) (u : Update) (rows : ℕ) → HasRows node_width ns rows → x.0 < rows → (y : NodeNo) → (y ≡ x → Q u) → Q (update_at ns y) → Q (update_at (set_update ns x u) y)
update-set_update_case Q ns x u rows r h y set old = elim (ℕ_discrete y.0 x.0) [
  | yes e ↦ let same : y ≡ x = ap node e in rw same (subst Q (sym (update-set_update_same ns x u rows r h)) (set same))
  | no e ↦ subst Q (sym (update-set_update-node ns x u y e)) old
]

-- ---- a new node

pub row-length : (kind : ℕ) (k : Rank) (q : Phase) (prev : Option NodeNo) (left right : NodeNo) → length (new_row kind k q prev left right) ≡ node_width
unfolding new_row
row-length kind k q None left right = refl
row-length kind k q (Some x) left right = refl

module _ (ns : List ℕ) (x : NodeNo) (kind : ℕ) (k : Rank) (q : Phase) (prev : Option NodeNo) (left right : NodeNo) where
  pub rows-new_node : (rows : ℕ) → HasRows node_width ns rows → HasRows node_width (new_node ns x kind k q prev left right) rows
  unfolding new_node
  rows-new_node rows h = rows-put_row node_width ns _ x.0 rows h

  word-new_node-node : (y : NodeNo) → y.0 ≢ x.0 → (g : ℕ) → g < node_width → node_word (new_node ns x kind k q prev left right) y g ≡ node_word ns y g
  unfolding new_node
  word-new_node-node y ne g h = word-put_row_other node_width ns _ x.0 y.0 g (row-length kind k q prev left right) h ne

  pub fixed_new_node-node : (y : NodeNo) → y.0 ≢ x.0 → fixed_at (new_node ns x kind k q prev left right) y ≡ fixed_at ns y
  fixed_new_node-node y ne = fixed_words ns _ y (λ g h. word-new_node-node y ne g (omega arith))

  pub child_new_node-node : (y : NodeNo) → y.0 ≢ x.0 → (s : Bool) → child_at (new_node ns x kind k q prev left right) y s ≡ child_at ns y s
  child_new_node-node y ne = children_words ns _ y y (word-new_node-node y ne)

  pub update-new_node-node : (y : NodeNo) → y.0 ≢ x.0 → update_at (new_node ns x kind k q prev left right) y ≡ update_at ns y
  update-new_node-node y ne = update_words ns _ y y (word-new_node-node y ne)

  module _ (rows : ℕ) (r : HasRows node_width ns rows) (h : x.0 < rows) where
    word-new_node_same : (g : ℕ) → g < node_width → node_word (new_node ns x kind k q prev left right) x g ≡ get_or (new_row kind k q prev left right) g 0
    unfolding new_node
    word-new_node_same g l = word-put_row_same node_width ns _ x.0 g rows (row-length kind k q prev left right) r h l

    pub fixed_new_node_same : fixed_at (new_node ns x kind k q prev left right) x ≡ record { kind = kind; rank = k; phase = q.0; prev = prev }
    unfolding fixed_at kind_at rank_at phase_at prev_at
    fixed_new_node_same = simp (word-new_node_same 0 (omega arith), word-new_node_same 1 (omega arith), word-new_node_same 2 (omega arith), word-new_node_same 3 (omega arith), word-new_node_same 4 (omega arith), word-new_node_same 5 (omega arith)) (shown prev)
      where
        shown : (m : Option NodeNo) → ◌≡◌ {A = Fixed} (record { kind = get_or (new_row kind k q m left right) 0 0; rank = record { class = get_or (new_row kind k q m left right) 1 0; word = get_or (new_row kind k q m left right) 2 0 }; phase = get_or (new_row kind k q m left right) 3 0; prev = pick (lib.Dec.eqb (get_or (new_row kind k q m left right) 4 0) 0) None (Some (node (get_or (new_row kind k q m left right) 5 0))) }) (record { kind = kind; rank = k; phase = q.0; prev = m })
        shown None = unfold new_row pick in refl
        shown (Some y) = unfold new_row pick in refl

    pub child_new_node-left : child_at (new_node ns x kind k q prev left right) x true ≡ left
    unfolding child_at side
    child_new_node-left = ap node (word-new_node_same 6 (omega arith) ∙ shown prev)
      where
        shown : (m : Option NodeNo) → get_or (new_row kind k q m left right) 6 0 ≡ left.0
        shown None = unfold new_row in refl
        shown (Some y) = unfold new_row in refl

    pub child_new_node_right : child_at (new_node ns x kind k q prev left right) x false ≡ right
    unfolding child_at side
    child_new_node_right = ap node (word-new_node_same 7 (omega arith) ∙ shown prev)
      where
        shown : (m : Option NodeNo) → get_or (new_row kind k q m left right) 7 0 ≡ right.0
        shown None = unfold new_row in refl
        shown (Some y) = unfold new_row in refl

    pub update-new_node_same : update_at (new_node ns x kind k q prev left right) x ≡ fresh_word
    unfolding update_at
    update-new_node_same = ap₂ (λ a b. update a (record_no b)) (word-new_node_same 8 (omega arith) ∙ shown prev) (word-new_node_same 9 (omega arith) ∙ shown' prev)
      where
        shown : (m : Option NodeNo) → get_or (new_row kind k q m left right) 8 0 ≡ 0
        shown None = unfold new_row in refl
        shown (Some y) = unfold new_row in refl

        shown' : (m : Option NodeNo) → get_or (new_row kind k q m left right) 9 0 ≡ 0
        shown' None = unfold new_row in refl
        shown' (Some y) = unfold new_row in refl
