-- What every worker may count on when a child is linked, and when nodes and records are taken or a copy is made.
use Rattle.std.specs.Prelude.{ℕ, ◌<◌, ◌≡◌, refl, ◌≢◌, Bool, true, false}
use Rattle.std.proofs.Common.{sym, ap, ◌∙◌, inl, inr, true≢false, arith}
use Rattle.laws.specs.Changed.{by_equal}
use Rattle.shapes.specs.declared.Filling.{Filling}
use Rattle.views.specs.View.{View, w_kid}
use Rattle.protocol.specs.Ghost.{Ghost, node_of, par_of, old_child_of, new_child_of, side_of, link_of, Filled, InList, FrozeAll, Live}
use Rattle.protocol.specs.Invariant.{RecordHolds, Holds}
use Rattle.protocol.specs.Link.{kid_other, g_linked}
use Rattle.protocol.specs.Link as linking
use Rattle.protocol.specs.Frame.{Agrees}
use Rattle.protocol.specs.Frame as frame
use Rattle.protocol.specs.Rely.{Rely}

module _ (w : ℕ) (X : View) (G : Ghost) (H : Holds X G) (r : ℕ) (f : Filled X r) (t : G.tried r ≡ true) (all : FrozeAll G r (X.filling r)) (hit : link_of X (X.filling r) ≡ old_child_of (X.filling r))
    (linked' : ℕ → Bool) (more : (n : ℕ) → G.linked n ≡ true → linked' n ≡ true) (only : (n : ℕ) → G.maker n ≢ r → linked' n ≡ G.linked n) where
  R : RecordHolds X G r (X.filling r)
  R = H.records r f

  first_in : InList (X.filling r) 1
  first_in = record { low = omega arith; high = omega (arith, R.lists.two) }

  par : ℕ
  par = par_of (X.filling r)

  par_linked : G.linked (par_of (X.filling r)) ≡ true
  par_linked = rw (← R.lists.first) (R.lists.linked 1 first_in)

  par_live : Live X (X.update (par_of (X.filling r))).info.0
  par_live =
      let mine : (X.update (par_of (X.filling r))).info.0 ≡ r = rw (← R.lists.first) (linking.stands X G H r f t all hit 1 first_in) in
      rw mine (linking.live X G H r f t all hit)

  pub rely_link : Rely w X (w_kid X (side_of X (X.filling r)) (par_of (X.filling r)) (new_child_of (X.filling r))) G (g_linked G linked')
  rely_link = record {
    filled = λ q g. g;
    filling = λ q g. refl;
    fixed = λ v l. refl;
    maker = λ v l. refl;
    owner = λ q l. refl;
    nodes = omega arith;
    records = omega arith;
    linked = more;
    froze = λ q v h. h;
    tried = λ q h. h;
    seen = λ v u h. h;
    stood = λ v u s e. e;
    final = λ u k h. h;
    begun = λ q g h. h;
    past = linking.past' X G H r f t all hit;
    passed = λ q k g i h. h;
    lost = λ q g h. h;
    kids = λ v h. by_equal v (par_of (X.filling r)) (λ e. inr (rw e par_live)) (λ e. inl (λ s. kid_other X.kid (side_of X (X.filling r)) (par_of (X.filling r)) (new_child_of (X.filling r)) s v e));
    unfilled = λ q l o h. h;
    unseen = λ q g o h. (h, refl, refl);
    mine = λ v l h k o u. (
      only v (λ e. true≢false (sym (all 1 first_in) ∙ (rw e at u) (node_of (X.filling r) 1))) ∙ h,
      λ s. kid_other X.kid (side_of X (X.filling r)) (par_of (X.filling r)) (new_child_of (X.filling r)) s v (λ e. true≢false (sym par_linked ∙ rw e at h)),
    );
  }

-- ---- written aside

pub record Aside (w : ℕ) (X X' : View) (G G' : Ghost) : Type 0 where
  pub fixed : (v : ℕ) → v < X.nodes → X'.fixed v ≡ X.fixed v
  pub maker : (v : ℕ) → v < X.nodes → G'.maker v ≡ G.maker v
  pub owner : (r : ℕ) → r < X.records → G'.owner r ≡ G.owner r
  pub kids : (v : ℕ) → v < X.nodes → G.linked v ≡ false → G.maker v < X.records → G.owner (G.maker v) ≢ w → (s : Bool) → X'.kid s v ≡ X.kid s v

pub rely_aside : (w : ℕ) (X X' : View) (G G' : Ghost) (P : ℕ → Type 0) (H : Holds X G) (A : Agrees X X' G G' P) → Aside w X X' G G' → Rely w X X' G G'
rely_aside w X X' G G' P H A B = record {
  filled = frame.filled' X X' G G' P H A;
  filling = λ q g. A.filling q g.used;
  fixed = B.fixed;
  maker = B.maker;
  owner = B.owner;
  nodes = A.nodes;
  records = A.records;
  linked = λ v h. rw A.linked h;
  froze = λ q v h. rw A.froze h;
  tried = λ q h. rw A.tried h;
  seen = frame.seen' X X' G G' P H A;
  stood = λ v u s e. sym (A.update v s.used) ∙ e;
  final = frame.final' X X' G G' P H A;
  begun = λ q g h. rw (A.state q g.used) h;
  past = λ q g h d. h (sym (frame.link_same X X' G G' P H A q g) ∙ d);
  passed = λ q k g i h. rw (A.stamp, frame.word_same X X' G G' P H A q g k i) h;
  lost = λ q g h. frame.lost' X X' G G' P H A q g h;
  kids = λ v h. inl (λ s. A.kid v (A.of_linked v h) s);
  unfilled = λ q l o h. ap (λ (g : Filling). g.count) (A.filling q l) ∙ h;
  unseen = λ q g o h. ((λ v. rw A.froze (h v)), A.state q g.used, ap (λ k. k q) A.tried);
  mine = λ v l h k o u. (rw A.linked h, B.kids v l h k o);
}
