-- What tables that differ in changeable words only have in common, and what one equal word adds.
use Prim.Native.Nat.{ℕ, zero, suc, ◌≤◌}
use Rattle.std.specs.Prelude.{◌≡◌, Bool, Option, None, Some}
use Rattle.std.proofs.Math.Path.{refl, ap}
use Rattle.std.proofs.Common.{sym, ◌∙◌, subst, arith}
use Rattle.std.proofs.Math.Bool.{true, false}
use Rattle.laws.specs.Choice.{pick}
use Rattle.shapes.specs.declared.NodeNo.{NodeNo}
use Rattle.shapes.specs.declared.RecordNo.{RecordNo}
use Rattle.shapes.specs.declared.Phase.{Phase}
use Rattle.shapes.specs.Outcomes.{Decision}
use Rattle.tables.specs.Names.{node, phase, value}
use Rattle.tables.specs.Nodes.{kind_at, is_internal, rank_at, key_at, phase_at, prev_at, child_at, update_at}
use Rattle.tables.specs.NodeWrites.{fixed_at}
use Rattle.tables.specs.Records.{count_at, state_at, par_at, old_child_at, new_child_at, seq_at, entry_at, helpable, fillable}
use Rattle.tables.specs.RecordWrites.{filling_at}
use Rattle.tables.specs.Versions.{walk_back, read_child, as_parent}
use Rattle.tables.specs.World.{Tables}
use Rattle.sound.specs.Meaning.{entry_of}
use Rattle.sound.specs.Agree.{entry_of_lem}
use Rattle.steps.specs.Hand.{through}
use Rattle.kept.specs.Touched.{Changeable, counter, child, word, state, value_at}
use Rattle.looks.specs.Looked.{word_of, child_of}
use Rattle.looks.specs.Alike.{Alike}

-- ---- equal tests and equal ways give equal choices

pub same_pick : {A : Type 0} (b c : Bool) (x y z w : A) → b ≡ c → (c ≡ true → x ≡ z) → (c ≡ false → y ≡ w) → pick b x y ≡ pick c z w
unfolding pick
same_pick b true x y z w e f g = rw e (f refl)
same_pick b false x y z w e f g = rw e (g refl)

same_through : (m : Option NodeNo) (f g : NodeNo → Decision) → ((x : NodeNo) → f x ≡ g x) → through m f ≡ through m g
unfolding through
same_through None f g h = refl
same_through (Some x) f g h = h x

-- ---- the word looked at, by its parts

module _ (s t : Tables) where
  abbrev pub SameAt : Changeable → Type 0
  SameAt c = value_at t c ≡ value_at s c

  pub same_counter : SameAt counter → t.totals.counter ≡ s.totals.counter
  unfolding value_at
  same_counter e = ap (λ u. u.mark) e

  pub same_child : (x : NodeNo) (left : Bool) → SameAt (child x left) → child_at t.nodes x left ≡ child_at s.nodes x left
  unfolding value_at
  same_child x left e = ap (λ u. node u.mark) e

  pub same_word : (x : NodeNo) → SameAt (word x) → update_at t.nodes x ≡ update_at s.nodes x
  unfolding value_at
  same_word x e = e

  pub same_state : (r : RecordNo) → SameAt (state r) → state_at t.records r ≡ state_at s.records r
  unfolding value_at
  same_state r e = ap (λ u. u.mark) e

  -- of a node that is there
  pub word_there : (m : Option NodeNo) (x : NodeNo) → m ≡ Some x → SameAt (word_of m) → update_at t.nodes x ≡ update_at s.nodes x
  unfolding word_of
  word_there m x is e = same_word x (subst (λ n. SameAt (word_of n)) is e)

  pub child_there : (m : Option NodeNo) (x : NodeNo) (left : Bool) → m ≡ Some x → SameAt (child_of m left) → child_at t.nodes x left ≡ child_at s.nodes x left
  unfolding child_of
  child_there m x left is e = same_child x left (subst (λ n. SameAt (child_of n left)) is e)

-- ---- the parts that never change

module _ (s t : Tables) (a : Alike s t) where
  pub same_kind : (x : NodeNo) → kind_at t.nodes x ≡ kind_at s.nodes x
  unfolding fixed_at
  same_kind x = ap (λ f. f.kind) (a.fixed x)

  pub same_internal : (x : NodeNo) → is_internal t.nodes x ≡ is_internal s.nodes x
  unfolding is_internal
  same_internal x = rw (same_kind x)

  pub same_rank : (x : NodeNo) → rank_at t.nodes x ≡ rank_at s.nodes x
  unfolding fixed_at
  same_rank x = ap (λ f. f.rank) (a.fixed x)

  pub same_key : (x : NodeNo) → key_at t.nodes x ≡ key_at s.nodes x
  unfolding key_at
  same_key x = ap value (same_rank x)

  pub same_phase : (x : NodeNo) → phase_at t.nodes x ≡ phase_at s.nodes x
  unfolding fixed_at
  same_phase x = ap (λ f. phase f.phase) (a.fixed x)

  pub same_prev : (x : NodeNo) → prev_at t.nodes x ≡ prev_at s.nodes x
  unfolding fixed_at
  same_prev x = ap (λ f. f.prev) (a.fixed x)

  pub same_walk : (fuel : ℕ) (q : Phase) (m : Option NodeNo) → walk_back fuel t.nodes q m ≡ walk_back fuel s.nodes q m
  unfolding walk_back
  same_walk zero q m = refl
  same_walk (suc k) q None = refl
  same_walk (suc k) q (Some x) = rw (same_phase x, same_prev x, same_walk k q (prev_at s.nodes x))

  -- READCHILD looks at the child word, and then goes along what never changes
  pub same_read : (x : NodeNo) (left : Bool) (q : Phase) → SameAt s t (child x left) → read_child t.totals.nodes t.nodes x left q ≡ read_child s.totals.nodes s.nodes x left q
  unfolding read_child
  same_read x left q e = rw (same_child s t x left e, a.nodes, same_walk _ q _)

  -- what follows a parent: it is there in both or in neither
  pub by_node : {A : Type 0} (x : NodeNo) (f g : Option NodeNo → A) → f None ≡ g None → f (Some x) ≡ g (Some x) → f (as_parent t.nodes (Some x)) ≡ g (as_parent s.nodes (Some x))
  unfolding as_parent
  by_node x f g n h = rw (same_internal x) (there (is_internal s.nodes x))
    where
      there : (b : Bool) → f (pick b (Some x) None) ≡ g (pick b (Some x) None)
      there true = unfold pick in h
      there false = unfold pick in n

  pub by_parent : {A : Type 0} (m : Option NodeNo) (f g : Option NodeNo → A) → f None ≡ g None → ((x : NodeNo) → m ≡ Some x → f (Some x) ≡ g (Some x)) → f (as_parent t.nodes m) ≡ g (as_parent s.nodes m)
  by_parent None f g n h = unfold as_parent in n
  by_parent (Some x) f g n h = by_node x f g n (h x refl)

  pub with-node : (x : NodeNo) (f g : NodeNo → Decision) → f x ≡ g x → through (as_parent t.nodes (Some x)) f ≡ through (as_parent s.nodes (Some x)) g
  unfolding through
  with-node x f g h = by_node x (λ n. through n f) (λ n. through n g) refl h

  pub with_parent : (m : Option NodeNo) (f g : NodeNo → Decision) → ((x : NodeNo) → m ≡ Some x → f x ≡ g x) → through (as_parent t.nodes m) f ≡ through (as_parent s.nodes m) g
  unfolding through
  with_parent m f g h = by_parent m (λ n. through n f) (λ n. through n g) refl h

  -- what follows READCHILD
  pub with_child : (x : NodeNo) (left : Bool) (q : Phase) (f g : NodeNo → Decision) → SameAt s t (child x left) → ((c : NodeNo) → f c ≡ g c) → through (read_child t.totals.nodes t.nodes x left q) f ≡ through (read_child s.totals.nodes s.nodes x left q) g
  with_child x left q f g e h = rw (same_read x left q e) (same_through _ f g h)

  -- ---- records

  pub same_count : (r : RecordNo) → count_at t.records r ≡ count_at s.records r
  unfolding filling_at
  same_count r = ap (λ f. f.count) (a.filling r)

  pub same_par : (r : RecordNo) → par_at t.records r ≡ par_at s.records r
  unfolding filling_at
  same_par r = ap (λ f. f.par) (a.filling r)

  pub same_old : (r : RecordNo) → old_child_at t.records r ≡ old_child_at s.records r
  unfolding filling_at
  same_old r = ap (λ f. f.old) (a.filling r)

  pub same_new : (r : RecordNo) → new_child_at t.records r ≡ new_child_at s.records r
  unfolding filling_at
  same_new r = ap (λ f. f.new) (a.filling r)

  pub same_seq : (r : RecordNo) → seq_at t.records r ≡ seq_at s.records r
  unfolding filling_at
  same_seq r = ap (λ f. f.seq) (a.filling r)

  -- past the fourth entry the row ends, and with it what both have in common
  pub same_entry : (r : RecordNo) (i : ℕ) → 1 ≤ i → i ≤ 4 → entry_at t.records r i ≡ entry_at s.records r i
  same_entry r zero l u = absurd (omega arith)
  same_entry r (suc i) l u = entry_of_lem t.records r i (omega arith) ∙ ap (λ f. entry_of f (suc i)) (a.filling r) ∙ sym (entry_of_lem s.records r i (omega arith))

  pub same_helpable : (r : RecordNo) → helpable t.records r ≡ helpable s.records r
  unfolding helpable
  same_helpable r = rw (same_count r)

  pub same_fillable : (r : RecordNo) → fillable t.records r ≡ fillable s.records r
  unfolding fillable
  same_fillable r = rw (same_count r)
