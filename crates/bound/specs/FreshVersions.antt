-- Fresh tables: the version of every phase is the Root with its two leaves.
use Rattle.std.specs.Prelude.{ℕ, ◌*◌, ◌≤◌, ◌≡◌, refl, List, length, None}
use Rattle.std.proofs.Common.{sym, ◌∙◌, subst, arith, length-append, length-drop}
use Rattle.std.proofs.Math.Path.{ap}
use Rattle.std.proofs.Math.ListN.{length-replicate}
use Rattle.laws.specs.Choice.{pick}
use Rattle.laws.specs.Changed.{change, change_on}
use Rattle.shapes.specs.declared.Totals.{Totals}
use Rattle.tables.specs.Names.{node, phase, root, infinite}
use Rattle.tables.specs.Rows.{HasRows}
use Rattle.tables.specs.Nodes.{node_width, new_node}
use Rattle.tables.specs.NodeWrites.{Fixed, rows-new_node}
use Rattle.tables.specs.World.{tables}
use Rattle.tables.specs.Fresh.{cleared, fresh_nodes}
use Rattle.trees.specs.Shape.{tip, node as knot}
use Rattle.trees.specs.Version.{here, leaf_t, node_t}
use Rattle.views.specs.View.{View, view, w_node}
use Rattle.views.specs.Effects.{view-new_node}
use Rattle.protocol.specs.Trees.{leaf_of, Version}

-- an internal node or a leaf of phase 0, with no prev
abbrev early : ℕ → ℕ → Fixed
early kind class = record { kind = kind; rank = infinite class; phase = 0; prev = None }

-- a view with the three nodes written over X
unfoldable three : View → View
three X = w_node (w_node (w_node X 0 (early 1 2) 1 2) 1 (early 0 1) 0 0) 2 (early 0 2) 0 0

module _ (n : ℕ) (large : 3 ≤ n) (ns : List ℕ) (lent : n * node_width ≤ length ns) (t : Totals) (rs : List ℕ) where
  empty : List ℕ
  empty = cleared (n * node_width) 0 ns

  one : List ℕ
  unfolding empty
  one = new_node empty root 1 (infinite 2) (phase 0) None (node 1) (node 2)

  two : List ℕ
  unfolding one
  two = new_node one (node 1) 0 (infinite 1) (phase 0) None root root

  rows_empty : HasRows node_width empty n
  unfolding empty HasRows cleared
  rows_empty = simp (length-append, length-replicate, length-drop) (omega arith)

  rows-one : HasRows node_width one n
  unfolding one
  rows-one = rows-new_node empty root 1 (infinite 2) (phase 0) None (node 1) (node 2) n rows_empty

  rows-two : HasRows node_width two n
  unfolding two
  rows-two = rows-new_node one (node 1) 0 (infinite 1) (phase 0) None root root n rows-one

  fresh-view : view (tables t (fresh_nodes n ns) rs) ≡ three (view (tables t empty rs))
  unfolding three fresh_nodes two one empty
  fresh-view =
      view-new_node t two rs n rows-two (node 2) 0 (infinite 2) (phase 0) None root root (omega arith)
      ∙ ap (λ X. w_node X 2 (early 0 2) 0 0) (view-new_node t one rs n rows-one (node 1) 0 (infinite 1) (phase 0) None root root (omega arith))
      ∙ ap (λ X. w_node (w_node X 1 (early 0 1) 0 0) 2 (early 0 2) 0 0) (view-new_node t empty rs n rows_empty root 1 (infinite 2) (phase 0) None (node 1) (node 2) (omega arith))

three-version : (X : View) (i : ℕ) → Version (three X) i
unfolding three change change_on pick leaf_of
three-version X i = record {
  shape = knot 0 (tip 1) (tip 2);
  tree = node_t {v = 0} {a = 1} {b = 2} refl (here {n = 1} (omega arith)) (leaf_t {v = 1} refl) (here {n = 2} (omega arith)) (leaf_t {v = 2} refl);
  once = (tt, tt, (λ n a b. omega arith), (λ e. omega arith), (λ e. omega arith));
}

pub fresh-version : (n : ℕ) → 3 ≤ n → (ns : List ℕ) → n * node_width ≤ length ns → (t : Totals) (rs : List ℕ) (i : ℕ) → Version (view (tables t (fresh_nodes n ns) rs)) i
fresh-version n large ns lent t rs i = subst (λ X. Version X i) (sym (fresh-view n large ns lent t rs)) (three-version _ i)
