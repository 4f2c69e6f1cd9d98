-- A child CAS that succeeds keeps the shared invariant: all of the record's words stand, so nobody else touches its nodes.
use Rattle.std.specs.Prelude.{ℕ, ◌≤◌, ◌<◌, ◌≡◌, refl, ◌≢◌, ◌⊎◌, Bool, true, false, Some}
use Rattle.std.proofs.Common.{sym, ap, ◌∙◌, subst, inl, inr, true≢false, arith}
use Rattle.std.proofs.Math.Decide.{ℕ_discrete}
use Rattle.laws.specs.Changed.{change_on, change_on_same, change_on_other, change_on_case}
use Rattle.shapes.specs.declared.Update.{Update}
use Rattle.tables.specs.Names.{node}
use Rattle.tables.specs.Records.{trying, committed, aborted}
use Rattle.views.specs.View.{View, w_kid}
use Rattle.protocol.specs.Ghost.{Ghost, node_of, old_of, par_of, old_child_of, new_child_of, side_of, link_of, Filled, InList, Past, FrozeAll, Live}
use Rattle.protocol.specs.Invariant.{Planted, Held, Copied, RecordHolds, Holds}

-- ---- one child changed

pub kid_here : (K : Bool → ℕ → ℕ) (d : Bool) (x c : ℕ) → change_on K d x c d x ≡ c
kid_here K d x c = change_on_same K d x c

pub kid_other : (K : Bool → ℕ → ℕ) (d : Bool) (x c : ℕ) (s : Bool) (v : ℕ) → v ≢ x → change_on K d x c s v ≡ K s v
kid_other K d x c s v ne = change_on_other K d x c s v (λ _ e. ne e)

-- the new child there, the old one elsewhere
pub kid_case {κ} : (Q : ℕ → Type κ) (K : Bool → ℕ → ℕ) (d : Bool) (x c : ℕ) (s : Bool) (v : ℕ) → (s ≡ d → v ≡ x → Q c) → Q (K s v) → Q (change_on K d x c s v)
kid_case Q K d x c s v here old = change_on_case K d x c Q s v here (λ _. old)

abbrev pub g_linked : Ghost → (ℕ → Bool) → Ghost
g_linked G l = record { stamp = G.stamp; next = G.next; froze = G.froze; tried = G.tried; linked = l; maker = G.maker; owner = G.owner }

module _ (X : View) (G : Ghost) (H : Holds X G) (r : ℕ) (f : Filled X r) (t : G.tried r ≡ true) (all : FrozeAll G r (X.filling r)) (hit : link_of X (X.filling r) ≡ old_child_of (X.filling r)) where
  R : RecordHolds X G r (X.filling r)
  R = H.records r f

  -- it is in progress: not committed, for its child CAS is still to come; not aborted, for it is not lost
  pub live : Live X r
  live =
      let one : trying ≤ X.state r = R.tried_state t in
      let not-committed : X.state r ≢ committed = λ e. (R.commits e).2 hit in
      let not-aborted : X.state r ≢ aborted = λ e. let h = R.aborts e t in true≢false (sym (all h.at h.list) ∙ h.not) in
      omega (arith, R.most)

  pub stands : (j : ℕ) → InList (X.filling r) j → (X.update (node_of (X.filling r) j)).info.0 ≡ r
  stands j i = R.holds _ (all j i) live

  first_in : InList (X.filling r) 1
  first_in = record { low = omega arith; high = omega (arith, R.lists.two) }

  second_in : InList (X.filling r) 2
  second_in = record { low = omega arith; high = R.lists.two }

  par_linked : G.linked (par_of (X.filling r)) ≡ true
  par_linked = rw (← R.lists.first) (R.lists.linked 1 first_in)

  old_linked : G.linked (old_child_of (X.filling r)) ≡ true
  old_linked = rw (← R.lists.second) (R.lists.linked 2 second_in)

  pub new-fresh : G.linked (new_child_of (X.filling r)) ≡ false
  new-fresh = R.fresh hit

  -- what is not linked is not what is
  apart : (m n : ℕ) → G.linked m ≡ true → G.linked n ≡ false → n ≢ m
  apart m n a b e = true≢false (sym a ∙ rw (← e) b)

  abbrev K' : Bool → ℕ → ℕ
  K' = change_on X.kid (side_of X (X.filling r)) (par_of (X.filling r)) (new_child_of (X.filling r))

  abbrev X' : View
  X' = w_kid X (side_of X (X.filling r)) (par_of (X.filling r)) (new_child_of (X.filling r))

  -- a node that another record holds is not this record's parent
  held_apart : (q k : ℕ) → Filled X q → InList (X.filling q) k → q ≢ r → (X.update (node_of (X.filling q) k) ≡ old_of (X.filling q) k) ⊎ (((X.update (node_of (X.filling q) k)).info.0 ≡ q) × Live X q) → node_of (X.filling q) k ≢ par_of (X.filling r)
  held_apart q k g i ne (inl e) d =
      let mine : (X.update (node_of (X.filling q) k)).info.0 ≡ r = rw (d, ← R.lists.first) (stands 1 first_in) in
      let same : (old_of (X.filling q) k).info.0 ≡ r = ap (λ (w : Update). w.info.0) (sym e) ∙ mine in
      let final : committed ≤ X.state (old_of (X.filling q) k).info.0 = (H.records q g).old_final k i in
      let z : committed ≤ X.state r = rw same at final in
      omega (arith, live)
  held_apart q k g i ne (inr p) d = let mine : (X.update (node_of (X.filling q) k)).info.0 ≡ r = rw (d, ← R.lists.first) (stands 1 first_in) in ne (sym p.0 ∙ mine)

  -- the child CAS of another record: past stays past, and what is still to come was
  pub past' : (q : ℕ) → Filled X q → Past X (X.filling q) → Past X' (X.filling q)
  past' q g was = kid_case (λ c. c ≢ old_child_of (X.filling q)) X.kid (side_of X (X.filling r)) (par_of (X.filling r)) (new_child_of (X.filling r)) (side_of X (X.filling q)) (par_of (X.filling q)) (λ _ _ e. fresh-old e) was
    where
      fresh-old : new_child_of (X.filling r) ≢ old_child_of (X.filling q)
      fresh-old e =
          let Q = H.records q g in
          let linked : G.linked (old_child_of (X.filling q)) ≡ true = rw (← Q.lists.second) (Q.lists.linked 2 (record { low = omega arith; high = Q.lists.two })) in
          apart (old_child_of (X.filling q)) (new_child_of (X.filling r)) linked new-fresh e

  pub mine_past : Past X' (X.filling r)
  mine_past = rw (kid_here X.kid (side_of X (X.filling r)) (par_of (X.filling r)) (new_child_of (X.filling r))) (apart (old_child_of (X.filling r)) (new_child_of (X.filling r)) old_linked new-fresh)

  open_was : (q : ℕ) → Filled X q → link_of X' (X.filling q) ≡ old_child_of (X.filling q) → (q ≢ r) × (link_of X (X.filling q) ≡ old_child_of (X.filling q))
  open_was q g h = ((λ e. subst (λ y. Past X' (X.filling y)) (sym e) mine_past h), still (ℕ_discrete (link_of X (X.filling q)) (old_child_of (X.filling q))))
    where
      still : Dec (link_of X (X.filling q) ≡ old_child_of (X.filling q)) → link_of X (X.filling q) ≡ old_child_of (X.filling q)
      still (yes e) = e
      still (no ne) = absurd (past' q g ne h)

  -- ---- what is linked afterwards: all that was, and some of what was made with this record

  module _ (linked' : ℕ → Bool) (more : (n : ℕ) → G.linked n ≡ true → linked' n ≡ true) (only : (n : ℕ) → G.maker n ≢ r → linked' n ≡ G.linked n)
      (now : linked' (new_child_of (X.filling r)) ≡ true) (used' : (n : ℕ) → linked' n ≡ true → n < X.nodes)
      (kids' : (n : ℕ) → linked' n ≡ true → G.linked n ≡ false → (X.fixed n).kind ≡ 1 → (s : Bool) → linked' (K' s n) ≡ true)
      (prevs' : (n y : ℕ) → linked' n ≡ true → G.linked n ≡ false → (X.fixed n).prev ≡ Some (node y) → linked' y ≡ true) where
    abbrev G' : Ghost
    G' = g_linked G linked'

    unlinked_was : (n : ℕ) → linked' n ≡ false → G.linked n ≡ false
    unlinked_was n h = by (G.linked n) refl
      where
        by : (b : Bool) → G.linked n ≡ b → b ≡ false
        by true e = absurd (true≢false (sym (more n e) ∙ h))
        by false e = refl

    unlinked' : (q n : ℕ) → q ≢ r → G.maker n ≡ q → G.linked n ≡ false → linked' n ≡ false
    unlinked' q n ne m h = only n (λ e. ne (sym m ∙ e)) ∙ h

    held_was : (q k : ℕ) → Filled X q → Held X' q (X.filling q) k → (q ≢ r) × Held X q (X.filling q) k
    held_was q k g h = let o = open_was q g h.open' in (o.0, record { open' = o.1; word = h.word })

    record' : (q : ℕ) → Filled X' q → RecordHolds X' G' q (X.filling q)
    record' q g =
        let was : RecordHolds X G q (X.filling q) = H.records q g in
        record {
          old_final = λ k i. was.old_final k i;
          old-seen = was.old-seen;
          old_stamp = λ k i. was.old_stamp k i;
          frozen = was.frozen;
          in_order = was.in_order;
          later = was.later;
          holds = was.holds;
          tried_state = was.tried_state;
          trying_tried = was.trying_tried;
          most = was.most;
          commits = λ e. let c = was.commits e in (c.0, (λ k i. c.1 k i), past' q g c.2);
          aborts = was.aborts;
          lists = let l = was.lists in record { two = l.two; most_listed = l.most_listed; first = l.first; second = l.second; linked = λ k i. more _ (l.linked k i); apart = l.apart; inner = l.inner; old-phase = l.old-phase };
          makes = was.makes;
          fresh = λ h. let o = open_was q g h in unlinked' q (new_child_of (X.filling q)) o.0 was.makes.made (was.fresh o.1);
          kind = kind' was was.kind;
        }
      where
        not_r : linked' (new_child_of (X.filling q)) ≡ false → q ≢ r
        not_r h e = true≢false (sym now ∙ rw e at h)

        off_parent : G.linked (new_child_of (X.filling q)) ≡ false → (s : Bool) → K' s (new_child_of (X.filling q)) ≡ X.kid s (new_child_of (X.filling q))
        off_parent h s = kid_other X.kid (side_of X (X.filling r)) (par_of (X.filling r)) (new_child_of (X.filling r)) s (new_child_of (X.filling q)) (apart (par_of (X.filling r)) (new_child_of (X.filling q)) par_linked h)

        kind' : RecordHolds X G q (X.filling q) → Planted X G q (X.filling q) ⊎ Copied X G q (X.filling q) → Planted X' G' q (X.filling q) ⊎ Copied X' G' q (X.filling q)
        kind' was (inl p) = inl (record {
          left = p.left;
          right = p.right;
          inner = p.inner;
          kids = λ h. let u = unlinked_was _ h in let k = p.kids u in (off_parent u true ∙ k.0, off_parent u false ∙ k.1);
          leaf_left = p.leaf_left;
          leaf_right = p.leaf_right;
          phase-left = p.phase-left;
          phase_right = p.phase_right;
          no_prev = p.no_prev;
          used = p.used;
          made = p.made;
          fresh = λ h. let u = p.fresh (unlinked_was _ h) in (unlinked' q _ (not_r h) p.made.0 u.0, unlinked' q _ (not_r h) p.made.1 u.1);
          differ = p.differ;
        })
        kind' was (inr c) = inr (record {
          four = c.four;
          side = c.side;
          inner = c.inner;
          sibling = λ h.
              let o = held_was q 2 g h in
              let off : old_child_of (X.filling q) ≢ par_of (X.filling r) = λ e. held_apart q 2 g (record { low = omega arith; high = omega (arith, c.four) }) o.0 h.word (was.lists.second ∙ e) in
              kid_other X.kid (side_of X (X.filling r)) (par_of (X.filling r)) (new_child_of (X.filling r)) c.side (old_child_of (X.filling q)) off ∙ c.sibling o.1;
          copy = λ e h s.
              let o = held_was q 4 g h in
              let off : node_of (X.filling q) 4 ≢ par_of (X.filling r) = held_apart q 4 g (record { low = omega arith; high = omega (arith, c.four) }) o.0 h.word in
              off_parent (was.fresh o.1.open') s ∙ c.copy e o.1 s ∙ sym (kid_other X.kid (side_of X (X.filling r)) (par_of (X.filling r)) (new_child_of (X.filling r)) s (node_of (X.filling q) 4) off);
          kind = c.kind;
          phase = c.phase;
        })

    pub link_holds : Holds X' G'
    link_holds = record {
      records = record';
      unfilled = H.unfilled;
      blank = H.blank;
      dummy = H.dummy;
      stamps = H.stamps;
      words = H.words;
      used = used';
      kids = λ v h k s. by v (G.linked v) refl h k s;
      prevs = λ v y h e. back v y (G.linked v) refl h e;
    }
      where
        by : (v : ℕ) (b : Bool) → G.linked v ≡ b → linked' v ≡ true → (X.fixed v).kind ≡ 1 → (s : Bool) → linked' (K' s v) ≡ true
        by v true e h k s = kid_case (λ c. linked' c ≡ true) X.kid (side_of X (X.filling r)) (par_of (X.filling r)) (new_child_of (X.filling r)) s v (λ _ _. now) (more _ (H.kids v e k s))
        by v false e h k s = kids' v h e k s

        back : (v y : ℕ) (b : Bool) → G.linked v ≡ b → linked' v ≡ true → (X.fixed v).prev ≡ Some (node y) → linked' y ≡ true
        back v y true e h p = more y (H.prevs v y e p)
        back v y false e h p = prevs' v y h e p
