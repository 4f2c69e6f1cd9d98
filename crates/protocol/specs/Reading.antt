-- READCHILD on sound tables walks as the trees' walks do: it finds a child where the version has one, and only there.
use Prim.Native.Nat.{ℕ, zero, suc, ◌<◌}
use Rattle.std.proofs.Math.Path.{◌≡◌, refl, sym, ap}
use Rattle.std.proofs.Common.{◌∙◌, arith, leb-true, leb-false, le-leb}
use Rattle.std.specs.Prelude.{Bool, Option, None, Some}
use Rattle.std.proofs.Math.Bool.{true, false}
use Rattle.std.proofs.Math.Dec.{leb}
use Rattle.std.proofs.lemmas.Bool.{lt-leb}
use Rattle.laws.specs.Choice.{pick_true, pick_false}
use Rattle.shapes.specs.declared.NodeNo.{NodeNo}
use Rattle.shapes.specs.declared.Phase.{Phase}
use Rattle.tables.specs.Names.{node}
use Rattle.tables.specs.Nodes.{phase_at, prev_at, child_at}
use Rattle.tables.specs.NodeWrites.{fixed_at}
use Rattle.tables.specs.Versions.{walk_back, read_child}
use Rattle.tables.specs.World.{Tables}
use Rattle.sound.specs.Meaning.{TablesSound}
use Rattle.trees.specs.Version.{Walk, here, back, Child}
use Rattle.views.specs.View.{view}
use Rattle.protocol.specs.Trees.{store}

module _ (s : Tables) (h : TablesSound s) (q : Phase) where
  -- prev is a smaller number, so as many steps as the number are enough
  prev_smaller : (n : ℕ) (x : NodeNo) → n < s.totals.nodes → prev_at s.nodes (node n) ≡ Some x → x.0 < n
  unfolding fixed_at
  prev_smaller n x l e = rw e at (h.nodes n l).prev

  pub walk_found : {n m : ℕ} → Walk (store (view s)) q.0 n m → (k : ℕ) → n < k → n < s.totals.nodes → walk_back k s.nodes q (Some (node n)) ≡ Some (node m)
  unfolding walk_back view fixed_at
  walk_found w zero a b = absurd (omega arith)
  walk_found (here {n = n} l) (suc k) a b = pick_true _ _ _ (le-leb _ _ l)
  walk_found (back {n = n} {m = m} {x = x} l e w) (suc k) a b =
      let small : x.0 < n = prev_smaller n x b e in
      pick_false _ _ _ (lt-leb _ _ l) ∙ ap (walk_back k s.nodes q) e ∙ walk_found w k (omega arith) (omega arith)

  pub found_walk : (k : ℕ) (x c : NodeNo) → walk_back k s.nodes q (Some x) ≡ Some c → Walk (store (view s)) q.0 x.0 c.0
  unfolding walk_back view fixed_at
  found_walk zero x c e = absent_no e
    where
      absent_no : {A : Type 0} → None ≡ Some c → A
      absent_no e = let z : ◌≡◌ {A = ℕ} 0 1 = cc in absurd (omega arith)
  found_walk (suc k) x c e = by (λ y d. found_walk k y c d) (leb (phase_at s.nodes x).0 q.0) refl (prev_at s.nodes x) refl
    where
      by : ((y : NodeNo) → walk_back k s.nodes q (Some y) ≡ Some c → Walk (store (view s)) q.0 y.0 c.0) → (b : Bool) → leb (phase_at s.nodes x).0 q.0 ≡ b → (y : Option NodeNo) → prev_at s.nodes x ≡ y → Walk (store (view s)) q.0 x.0 c.0
      by on true t y d =
          let same : Some x ≡ Some c = sym (pick_true _ _ _ t) ∙ e in
          let named : ◌≡◌ {A = NodeNo} x c = cc in
          rw (← named) (here (leb-true _ _ t))
      by on false t (Some y) d = back (leb-false _ _ t) d (on y (ap (walk_back k s.nodes q) (sym d) ∙ sym (pick_false _ _ _ t) ∙ e))
      by on false t None d = ends k (ap (walk_back k s.nodes q) (sym d) ∙ sym (pick_false _ _ _ t) ∙ e)
        where
          ends : (k : ℕ) → walk_back k s.nodes q None ≡ Some c → Walk (store (view s)) q.0 x.0 c.0
          ends zero z = let y : ◌≡◌ {A = ℕ} 0 1 = cc in absurd (omega arith)
          ends (suc k) z = let y : ◌≡◌ {A = ℕ} 0 1 = cc in absurd (omega arith)

  pub child_found : (p c : ℕ) (left : Bool) → (child_at s.nodes (node p) left).0 < s.totals.nodes → Child (store (view s)) q.0 left p c → read_child s.totals.nodes s.nodes (node p) left q ≡ Some (node c)
  unfolding read_child view
  child_found p c left l w = walk_found w s.totals.nodes l l

  pub found_child : (p c : NodeNo) (left : Bool) → read_child s.totals.nodes s.nodes p left q ≡ Some c → Child (store (view s)) q.0 left p.0 c.0
  unfolding read_child view
  found_child p c left e = found_walk s.totals.nodes (child_at s.nodes p left) c e
