-- The child CAS of a record that succeeds: what is linked by it, and that it fits the trees of every version.
use Rattle.std.specs.Prelude.{ℕ, ◌≤◌, ◌<◌, ◌≡◌, refl, ◌≢◌, ◌⊎◌, Bool, true, false, Option, None, Some}
use Rattle.std.proofs.Common.{sym, ap, ◌∙◌, subst, inl, inr, true≢false, arith}
use Rattle.laws.specs.Changed.{change, change_same, change_other, change_case, change_on}
use Rattle.shapes.specs.declared.Filling.{Filling}
use Rattle.shapes.specs.declared.NodeNo.{NodeNo}
use Rattle.tables.specs.Names.{node}
use Rattle.trees.specs.Change.{Fits}
use Rattle.trees.specs.Updates.{Insert, Delete, insert-fits, delete-fits}
use Rattle.views.specs.View.{View, w_kid}
use Rattle.protocol.specs.Ghost.{Ghost, node_of, par_of, old_child_of, new_child_of, side_of, link_of, Filled, InList, Past, FrozeAll}
use Rattle.protocol.specs.Invariant.{Planted, Held, Copied, RecordHolds, Holds}
use Rattle.protocol.specs.Link.{g_linked, kid_other, link_holds}
use Rattle.protocol.specs.Link as linking
use Rattle.protocol.specs.Rely.{Rely}
use Rattle.protocol.specs.RelyMore.{rely_link}
use Rattle.protocol.specs.Trees.{store, leaf_of, inner_kind, kind_inner, kind_leaf, Links}

module _ (w : ℕ) (X : View) (G : Ghost) (H : Holds X G) (r : ℕ) (g : Filled X r) (t : G.tried r ≡ true) (all : FrozeAll G r (X.filling r)) (hit : link_of X (X.filling r) ≡ old_child_of (X.filling r)) where
  abbrev f : Filling
  f = X.filling r

  abbrev new : ℕ
  new = new_child_of (X.filling r)

  abbrev X' : View
  X' = w_kid X (side_of X (X.filling r)) (par_of (X.filling r)) (new_child_of (X.filling r))

  R : RecordHolds X G r (X.filling r)
  R = H.records r g

  fresh : G.linked (new_child_of (X.filling r)) ≡ false
  fresh = R.fresh hit

  par_linked : G.linked (par_of (X.filling r)) ≡ true
  par_linked = rw (← R.lists.first) (R.lists.linked 1 (record { low = omega arith; high = omega (arith, R.lists.two) }))

  off_parent : new_child_of (X.filling r) ≢ par_of (X.filling r)
  off_parent e = true≢false (sym par_linked ∙ rw e at fresh)

  held : (j : ℕ) → InList (X.filling r) j → Held X r (X.filling r) j
  held j i = record { open' = hit; word = inr (linking.stands X G H r g t all hit j i, linking.live X G H r g t all hit) }

  replaces : (X.fixed (new_child_of (X.filling r))).prev ≡ Some (node (link_of X (X.filling r)))
  replaces = R.makes.prev ∙ ap (λ n. Some (node n)) (sym hit)

  old-phase : (X.fixed (link_of X (X.filling r))).phase ≤ (X.fixed (new_child_of (X.filling r))).phase
  old-phase = rw (hit, R.makes.new-phase) R.lists.old-phase

  -- ---- it fits

  insert_of : Planted X G r (X.filling r) → Insert (store X) (side_of X (X.filling r)) (par_of (X.filling r)) (new_child_of (X.filling r)) (λ n. G.linked n ≡ false)
  insert_of p =
      let kids = p.kids fresh in
      let leaves = p.fresh fresh in
      record {
        replaces = replaces;
        other = off_parent;
        inner = kind_inner _ p.inner;
        leaves = λ e. by (λ n. leaf_of (X.fixed n) ≡ true) kids (kind_leaf _ p.leaf_left) (kind_leaf _ p.leaf_right) e;
        phases = λ e. by (λ n. (X.fixed n).phase ≤ (X.fixed (new_child_of (X.filling r))).phase) kids (rw (p.phase-left, R.makes.new-phase) (omega arith)) (rw (p.phase_right, R.makes.new-phase) (omega arith)) e;
        apart = λ e. p.differ.0 (sym kids.0 ∙ e ∙ kids.1);
        proper = λ e. by (λ n. new_child_of (X.filling r) ≢ n) kids p.differ.1 p.differ.2 e;
        fresh = fresh;
        fresh-leaves = λ e. by (λ n. G.linked n ≡ false) kids leaves.0 leaves.1 e;
      }
    where
      by : (Q : ℕ → Type 0) → (X.kid true (new_child_of (X.filling r)) ≡ p.left) × (X.kid false (new_child_of (X.filling r)) ≡ p.right) → Q p.left → Q p.right → (e : Bool) → Q (X.kid e (new_child_of (X.filling r)))
      by Q k a b true = subst Q (sym k.0) a
      by Q k a b false = subst Q (sym k.1) b

  delete_of : (c : Copied X G r (X.filling r)) → Delete (store X) (side_of X (X.filling r)) (par_of (X.filling r)) (new_child_of (X.filling r)) c.side (node_of (X.filling r) 4) (λ n. G.linked n ≡ false)
  delete_of c =
      let two : InList (X.filling r) 2 = record { low = omega arith; high = omega (arith, c.four) } in
      let four : InList (X.filling r) 4 = record { low = omega arith; high = omega (arith, c.four) } in
      record {
        replaces = replaces;
        other = off_parent;
        inner = rw hit (kind_inner _ c.inner);
        sibling = rw hit (c.sibling (held 2 two));
        phase-old = old-phase;
        phase_sibling = rw R.makes.new-phase c.phase;
        leaf = kinds c.kind;
        kids = λ h. c.copy (inner_kind _ h) (held 4 four);
        fresh = fresh;
      }
    where
      kinds : (X.fixed (new_child_of (X.filling r))).kind ≡ (X.fixed (node_of (X.filling r) 4)).kind → leaf_of (X.fixed (new_child_of (X.filling r))) ≡ leaf_of (X.fixed (node_of (X.filling r) 4))
      kinds e = unfold leaf_of in rw e

  pub fits : (i : ℕ) → Fits (store X) (side_of X (X.filling r)) (par_of (X.filling r)) (new_child_of (X.filling r)) (λ n. G.linked n ≡ false) i
  fits i = elim R.kind [ inl p ↦ insert-fits (insert_of p) i | inr c ↦ delete-fits (delete_of c) i ]

  pub links : (G' : Ghost) → Links X X' G G'
  links G' = record { side = side_of X (X.filling r); par = par_of (X.filling r); new = new_child_of (X.filling r); after = refl; fits = fits }

  -- ---- what is linked by it

  -- one node more
  linked_more : (L : ℕ → Bool) (x n : ℕ) → L n ≡ true → change L x true n ≡ true
  linked_more L x n h = change_case (λ b. b ≡ true) L x true n (λ _. refl) (λ _. h)

  linked_was : (L : ℕ → Bool) (x n : ℕ) → change L x true n ≡ true → (n ≡ x) ⊎ (L n ≡ true)
  linked_was L x n = change_case (λ b. b ≡ true → (n ≡ x) ⊎ (L n ≡ true)) L x true n (λ e _. inl e) (λ _ h. inr h)

  not_both : {A : Type 0} (b : Bool) → b ≡ true → b ≡ false → A
  not_both b t f = absurd (true≢false (sym t ∙ f))

  old_linked : G.linked (old_child_of (X.filling r)) ≡ true
  old_linked = rw (← R.lists.second) (R.lists.linked 2 (record { low = omega arith; high = R.lists.two }))

  new_kid : (s : Bool) → change_on X.kid (side_of X (X.filling r)) (par_of (X.filling r)) (new_child_of (X.filling r)) s (new_child_of (X.filling r)) ≡ X.kid s (new_child_of (X.filling r))
  new_kid s = kid_other X.kid (side_of X (X.filling r)) (par_of (X.filling r)) (new_child_of (X.filling r)) s (new_child_of (X.filling r)) off_parent

  prev_is : (y : ℕ) → (X.fixed (new_child_of (X.filling r))).prev ≡ Some (node y) → y ≡ old_child_of (X.filling r)
  prev_is y e =
      let same : Some (node y) ≡ Some (node (old_child_of (X.filling r))) = sym e ∙ R.makes.prev in
      let named : ◌≡◌ {A = NodeNo} (node y) (node (old_child_of (X.filling r))) = cc in
      ap (λ (x : NodeNo). x.0) named

  absent_no : {A : Type 0} (m : Option NodeNo) (y : ℕ) → m ≡ None → m ≡ Some (node y) → A
  absent_no m y a b = let z : ◌≡◌ {A = ℕ} 0 1 = cc in absurd (omega arith)

  -- the turn as a whole
  pub record LinkedTurn : Type 0 where
    pub after : Ghost
    pub holds : Holds X' after
    pub rely : Rely w X X' G after
    pub past : Past X' (X.filling r)

  copied_link : Copied X G r (X.filling r) → LinkedTurn
  copied_link c =
      record {
        after = g_linked G L;
        holds = link_holds X G H r g t all hit L more only (change_same G.linked _ true) used' kids' prevs';
        rely = rely_link w X G H r g t all hit L more only;
        past = linking.mine_past X G H r g t all hit;
      }
    where
      L : ℕ → Bool
      L = change G.linked (new_child_of (X.filling r)) true

      more : (n : ℕ) → G.linked n ≡ true → L n ≡ true
      more n h = linked_more G.linked _ n h

      only : (n : ℕ) → G.maker n ≢ r → L n ≡ G.linked n
      only n ne = change_other G.linked _ true n (λ e. ne (rw e R.makes.made))

      used' : (n : ℕ) → L n ≡ true → n < X.nodes
      used' n h = elim (linked_was G.linked _ n h) [ inl e ↦ rw e R.makes.new_used | inr k ↦ H.used n k ]

      four : InList (X.filling r) 4
      four = record { low = omega arith; high = omega (arith, c.four) }

      kids' : (n : ℕ) → L n ≡ true → G.linked n ≡ false → (X.fixed n).kind ≡ 1 → (s : Bool) → L (change_on X.kid (side_of X (X.filling r)) (par_of (X.filling r)) (new_child_of (X.filling r)) s n) ≡ true
      kids' n h u k s = elim (linked_was G.linked _ n h) [
        | inl e ↦
            let inner : (X.fixed (node_of (X.filling r) 4)).kind ≡ 1 = sym c.kind ∙ rw e at k in
            rw (e, new_kid s, c.copy inner (held 4 four) s) (more _ (H.kids _ (R.lists.linked 4 four) inner s))
        | inr d ↦ not_both _ d u
      ]

      prevs' : (n y : ℕ) → L n ≡ true → G.linked n ≡ false → (X.fixed n).prev ≡ Some (node y) → L y ≡ true
      prevs' n y h u p = elim (linked_was G.linked _ n h) [ inl e ↦ rw (prev_is y (rw e at p)) (more _ old_linked) | inr d ↦ not_both _ d u ]

  planted-link : Planted X G r (X.filling r) → LinkedTurn
  planted-link p =
      record {
        after = g_linked G L;
        holds = link_holds X G H r g t all hit L more only now used' kids' prevs';
        rely = rely_link w X G H r g t all hit L more only;
        past = linking.mine_past X G H r g t all hit;
      }
    where
      L1 : ℕ → Bool
      L1 = change G.linked (new_child_of (X.filling r)) true

      L2 : ℕ → Bool
      L2 = change L1 p.left true

      L : ℕ → Bool
      L = change L2 p.right true

      more : (n : ℕ) → G.linked n ≡ true → L n ≡ true
      more n h = linked_more L2 _ n (linked_more L1 _ n (linked_more G.linked _ n h))

      was : (n : ℕ) → L n ≡ true → (n ≡ p.right) ⊎ (n ≡ p.left) ⊎ (n ≡ new_child_of (X.filling r)) ⊎ (G.linked n ≡ true)
      was n h = elim (linked_was L2 _ n h) [ inl e ↦ inl e | inr k ↦ elim (linked_was L1 _ n k) [ inl e ↦ inr (inl e) | inr m ↦ elim (linked_was G.linked _ n m) [ inl e ↦ inr (inr (inl e)) | inr d ↦ inr (inr (inr d)) ] ] ]

      only : (n : ℕ) → G.maker n ≢ r → L n ≡ G.linked n
      only n ne = change_other L2 _ true n (λ e. ne (rw e p.made.1)) ∙ change_other L1 _ true n (λ e. ne (rw e p.made.0)) ∙ change_other G.linked _ true n (λ e. ne (rw e R.makes.made))

      now : L (new_child_of (X.filling r)) ≡ true
      now = linked_more L2 _ _ (linked_more L1 _ _ (change_same G.linked _ true))

      left_now : L p.left ≡ true
      left_now = linked_more L2 _ _ (change_same L1 _ true)

      right_now : L p.right ≡ true
      right_now = change_same L2 _ true

      used' : (n : ℕ) → L n ≡ true → n < X.nodes
      used' n h = elim (was n h) [ inl e ↦ rw e p.used.1 | inr (inl e) ↦ rw e p.used.0 | inr (inr (inl e)) ↦ rw e R.makes.new_used | inr (inr (inr d)) ↦ H.used n d ]

      new_kids : (s : Bool) → L (X.kid s (new_child_of (X.filling r))) ≡ true
      new_kids true = rw (p.kids fresh).0 left_now
      new_kids false = rw (p.kids fresh).1 right_now

      leaf_no : {A : Type 0} (m : ℕ) → (X.fixed m).kind ≡ 0 → (X.fixed m).kind ≡ 1 → A
      leaf_no m a b = absurd (omega arith)

      kids' : (n : ℕ) → L n ≡ true → G.linked n ≡ false → (X.fixed n).kind ≡ 1 → (s : Bool) → L (change_on X.kid (side_of X (X.filling r)) (par_of (X.filling r)) (new_child_of (X.filling r)) s n) ≡ true
      kids' n h u k s = elim (was n h) [
        | inl e ↦ leaf_no p.right p.leaf_right (rw e at k)
        | inr (inl e) ↦ leaf_no p.left p.leaf_left (rw e at k)
        | inr (inr (inl e)) ↦ rw (e, new_kid s) (new_kids s)
        | inr (inr (inr d)) ↦ not_both _ d u
      ]

      prevs' : (n y : ℕ) → L n ≡ true → G.linked n ≡ false → (X.fixed n).prev ≡ Some (node y) → L y ≡ true
      prevs' n y h u q = elim (was n h) [
        | inl e ↦ absent_no _ y p.no_prev.1 (rw e at q)
        | inr (inl e) ↦ absent_no _ y p.no_prev.0 (rw e at q)
        | inr (inr (inl e)) ↦ rw (prev_is y (rw e at q)) (more _ old_linked)
        | inr (inr (inr d)) ↦ not_both _ d u
      ]

  pub linked_step : LinkedTurn
  linked_step = elim R.kind [ inl p ↦ planted-link p | inr c ↦ copied_link c ]
