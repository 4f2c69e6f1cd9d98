-- The three nodes of an insert, from their taking to line 102.
use Rattle.std.specs.Prelude.{ℕ, ◌≡◌, ◌≢◌, true, false, None, Some}
use Rattle.std.proofs.Common.{◌∙◌}
use Rattle.shapes.specs.declared.Filling.{Filling}
use Rattle.tables.specs.Names.{node}
use Rattle.tables.specs.NodeWrites.{Fixed}
use Rattle.tables.specs.Records.{undecided}
use Rattle.views.specs.View.{View, w_record}
use Rattle.protocol.specs.Ghost.{Ghost, old_child_of, new_child_of, seq_of}
use Rattle.protocol.specs.Invariant.{Planted, Holds}
use Rattle.protocol.specs.Fill.{g_filled}
use Rattle.protocol.specs.Rely.{Rely}
use Rattle.protocol.specs.Knowledge.{Taken, Made, made_kept, made_kids, made_fixed}

-- a leaf of phase q with no prev
pub record NewLeaf (f : Fixed) (q : ℕ) : Type 0 where
  pub leaf : f.kind ≡ 0
  pub phase : f.phase ≡ q
  pub no_prev : f.prev ≡ None

-- an internal node of phase q whose prev is l
pub record NewTop (f : Fixed) (l q : ℕ) : Type 0 where
  pub inner : f.kind ≡ 1
  pub phase : f.phase ≡ q
  pub prev : f.prev ≡ Some (node l)

pub record Plants (X : View) (G : Ghost) (r top l q : ℕ) : Type 0 where
  pub left : ℕ
  pub right : ℕ
  pub made : Made X G r top
  pub made-left : Made X G r left
  pub made_right : Made X G r right
  pub kids : (X.kid true top ≡ left) × (X.kid false top ≡ right)
  pub new_top : NewTop (X.fixed top) l q
  pub new-left : NewLeaf (X.fixed left) q
  pub new_right : NewLeaf (X.fixed right) q
  pub differ : (left ≢ right) × (top ≢ left) × (top ≢ right)

pub plants_kept : (o : ℕ) (X X' : View) (G G' : Ghost) (L : Rely o X X' G G') (w : ℕ) (differ : w ≢ o) (H : Holds X G) (r : ℕ) (t : Taken w X G r) (top l q : ℕ) → Plants X G r top l q → Plants X' G' r top l q
plants_kept o X X' G G' L w differ H r t top l q p = record {
  left = p.left;
  right = p.right;
  made = made_kept o X X' G G' L w differ H r top t p.made;
  made-left = made_kept o X X' G G' L w differ H r p.left t p.made-left;
  made_right = made_kept o X X' G G' L w differ H r p.right t p.made_right;
  kids = (made_kids o X X' G G' L w differ H r top t p.made true ∙ p.kids.0, made_kids o X X' G G' L w differ H r top t p.made false ∙ p.kids.1);
  new_top = rw (made_fixed o X X' G G' L w differ H r top t p.made) p.new_top;
  new-left = rw (made_fixed o X X' G G' L w differ H r p.left t p.made-left) p.new-left;
  new_right = rw (made_fixed o X X' G G' L w differ H r p.right t p.made_right) p.new_right;
  differ = p.differ;
}

-- as line 102 needs them
pub planted : (X : View) (G : Ghost) (r : ℕ) (f : Filling) → Plants X G r (new_child_of f) (old_child_of f) (seq_of f) → Planted (w_record X r undecided f) (g_filled G r) r f
planted X G r f p = record {
  left = p.left;
  right = p.right;
  inner = p.new_top.inner;
  kids = λ _. p.kids;
  leaf_left = p.new-left.leaf;
  leaf_right = p.new_right.leaf;
  phase-left = p.new-left.phase;
  phase_right = p.new_right.phase;
  no_prev = (p.new-left.no_prev, p.new_right.no_prev);
  used = (p.made-left.used, p.made_right.used);
  made = (p.made-left.maker, p.made_right.maker);
  fresh = λ _. (p.made-left.fresh, p.made_right.fresh);
  differ = p.differ;
}
