-- The changes of an insert and of a delete fit, in every version.
use Rattle.std.specs.Prelude.{◌≡◌, ◌≢◌, Bool, true, false, ℕ, ◌≤◌}
use Rattle.std.proofs.Common.{sym, ◌∙◌, inl, inr, arith}
use Rattle.std.proofs.Math.Decide.{dec_le}
use Rattle.laws.specs.Changed.{change_on_other}
use Rattle.trees.specs.Shape.{Shape, tip, node, In, Once, Free}
use Rattle.trees.specs.Grown.{Grown, grown_as, grown_within}
use Rattle.trees.specs.Version.{Store, set_kid, here, Child, IsTree, leaf_t, node_t, Reads, Side, tree_side, walk_stays}
use Rattle.trees.specs.Change.{Replaces, walk-set, tree_without, Fits, later-fits}

-- the new child is internal, with two leaves, all three of them new
pub record Insert (S : Store) (d : Bool) (p new : ℕ) (New : ℕ → Type 0) : Type 0 where
  pub replaces : Replaces S d p new
  pub other : new ≢ p
  pub inner : S.leaf new ≡ false
  pub leaves : (e : Bool) → S.leaf (S.kid e new) ≡ true
  pub phases : (e : Bool) → S.phase (S.kid e new) ≤ S.phase new
  pub apart : S.kid true new ≢ S.kid false new
  pub proper : (e : Bool) → new ≢ S.kid e new
  pub fresh : New new
  pub fresh-leaves : (e : Bool) → New (S.kid e new)

-- the old child is internal, and the new one is a copy of its child sib on side e
pub record Delete (S : Store) (d : Bool) (p new : ℕ) (e : Bool) (sib : ℕ) (New : ℕ → Type 0) : Type 0 where
  pub replaces : Replaces S d p new
  pub other : new ≢ p
  pub inner : S.leaf (S.kid d p) ≡ false
  pub sibling : S.kid e (S.kid d p) ≡ sib
  pub phase-old : S.phase (S.kid d p) ≤ S.phase new
  pub phase_sibling : S.phase sib ≤ S.phase new
  pub leaf : S.leaf new ≡ S.leaf sib
  pub kids : S.leaf sib ≡ false → (f : Bool) → S.kid f new ≡ S.kid f sib
  pub fresh : New new

module _ (S : Store) (d : Bool) (p new : ℕ) where
  child_new : new ≢ p → (i : ℕ) (e : Bool) (c : ℕ) → Child S i e new c → Child (set_kid S d p new) i e new c
  child_new other i e c w = rw (change_on_other S.kid d p new e new (λ _ same. other same)) (walk-set S d p new w)

  -- from its phase on the new child itself is read, before that the child that it replaces
  from_new : (New : ℕ → Type 0) (i : ℕ) → Replaces S d p new
      → (S.phase new ≤ i → (q : Shape) → Reads S i (S.kid d p) q → (In p q → ⊥) → Once q → Free New q → Grown (IsTree (set_kid S d p new) i new) New q) → Fits S d p new New i
  from_new New i e f = elim (dec_le (S.phase new) i) [
    | yes h ↦ record { read = λ q r out once free. grown_as (λ x t. record { end = new; walk = here h; tree = t }) (λ n j. j) (f h q r out once free) }
    | no h ↦ later-fits (omega arith) e
  ]

module _ {S : Store} {d : Bool} {p new : ℕ} {New : ℕ → Type 0} where
  pub insert-fits : Insert S d p new New → (i : ℕ) → Fits S d p new New i
  insert-fits I i = from_new S d p new New i I.replaces (λ h q r out once free. record {
    to = node new (tip (S.kid true new)) (tip (S.kid false new));
    tree = node_t I.inner (read h true) (leaf_t (I.leaves true)) (read h false) (leaf_t (I.leaves false));
    once = (tt, tt, λ n j k. I.apart (sym j ∙ k), I.proper true, I.proper false);
    from = λ n. elim [ inl j ↦ inr (rw j I.fresh) | inr (inl j) ↦ inr (rw j (I.fresh-leaves true)) | inr (inr j) ↦ inr (rw j (I.fresh-leaves false)) ];
  })
    where
      read : S.phase new ≤ i → (e : Bool) → Child (set_kid S d p new) i e new (S.kid e new)
      read h e = let low : S.phase (S.kid e new) ≤ i = omega (arith, I.phases e) in child_new S d p new I.other i e (S.kid e new) (here low)

  -- a copy of a leaf, or of a node with its two trees
  copied : {e : Bool} {sib i : ℕ} {q : Shape} → Delete S d p new e sib New → IsTree S i sib q → (In p q → ⊥) → Once q → Free New q → Grown (IsTree (set_kid S d p new) i new) New q
  copied D (leaf_t h) out once free = record { to = tip new; tree = leaf_t (D.leaf ∙ h); once = tt; from = λ n j. inr (rw j D.fresh) }
  copied {i = i} D (node_t {v = v} {a = a} {b = b} {s = s} {t = t} h wa ta wb tb) out o free = record {
    to = node new s t;
    tree = node_t (D.leaf ∙ h) (child true a wa) (tree_without S d p new (λ j. out (inr (inl j))) ta) (child false b wb) (tree_without S d p new (λ j. out (inr (inr j))) tb);
    once = (o.0, o.1, o.2, λ j. free new D.fresh (inr (inl j)), λ j. free new D.fresh (inr (inr j)));
    from = λ n. elim [ inl j ↦ inr (rw j D.fresh) | inr j ↦ inl (inr j) ];
  }
    where
      child : (f : Bool) (c : ℕ) → Child S i f v c → Child (set_kid S d p new) i f new c
      child f c w = child_new S d p new D.other i f c (rw (D.kids h f) w)

  pub delete-fits : {e : Bool} {sib : ℕ} → Delete S d p new e sib New → (i : ℕ) → Fits S d p new New i
  delete-fits {e} {sib} D i = from_new S d p new New i D.replaces (λ h q r out once free.
      let old : Side S i e (S.kid d p) q = tree_side e (rw (walk_stays (omega (arith, D.phase-old)) r.walk) at r.tree) D.inner in
      let end : old.reads.end ≡ sib = walk_stays (omega (arith, D.phase_sibling)) (rw D.sibling at old.reads.walk) in
      grown_within old.sub (copied D (rw end at old.reads.tree) (λ j. out (old.sub p j)) (old.once once) (λ n m j. free n m (old.sub n j))))
