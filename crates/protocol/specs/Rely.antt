-- What every worker may count on when worker w takes a turn.
use Rattle.std.specs.Prelude.{ℕ, suc, ◌≤◌, ◌<◌, ◌≡◌, refl, ◌≢◌, ◌⊎◌, Bool, true, false}
use Rattle.std.proofs.Common.{sym, ap, ◌∙◌, inl, inr, true≢false, arith}
use Rattle.std.proofs.Math.Decide.{dec_le}
use Rattle.laws.specs.Changed.{change, change_same, change_other, change_case, by_equal}
use Rattle.shapes.specs.declared.Update.{Update}
use Rattle.shapes.specs.declared.Filling.{Filling}
use Rattle.tables.specs.Names.{record_no, update}
use Rattle.tables.specs.Records.{undecided, trying}
use Rattle.views.specs.View.{View, w_update, w_state, w_record, w_counter}
use Rattle.protocol.specs.Ghost.{Ghost, node_of, old_of, Filled, InList, Past, Passed, FrozeTo, Lost, Live, KnownWord, Seen, Final}
use Rattle.protocol.specs.Invariant.{Planted, Copied, RecordHolds, Holds}
use Rattle.protocol.specs.Freeze.{g_froze, froze_more, stamp_up}
use Rattle.protocol.specs.Freeze as freeze
use Rattle.protocol.specs.SetState.{g_tried, Sets}
use Rattle.protocol.specs.SetState as setting
use Rattle.protocol.specs.Fill.{g_filled, Fills}
use Rattle.protocol.specs.Fill as filling

-- nobody has seen the record yet
abbrev pub Unseen : Ghost → ℕ → Type 0
Unseen G r = (v : ℕ) → G.froze r v ≡ false

pub record Rely (w : ℕ) (X X' : View) (G G' : Ghost) : Type 0 where
  -- what stays
  pub filled : (r : ℕ) → Filled X r → Filled X' r
  pub filling : (r : ℕ) → Filled X r → X'.filling r ≡ X.filling r
  pub fixed : (v : ℕ) → v < X.nodes → X'.fixed v ≡ X.fixed v
  pub maker : (v : ℕ) → v < X.nodes → G'.maker v ≡ G.maker v
  pub owner : (r : ℕ) → r < X.records → G'.owner r ≡ G.owner r
  -- what grows
  pub nodes : X.nodes ≤ X'.nodes
  pub records : X.records ≤ X'.records
  pub linked : (v : ℕ) → G.linked v ≡ true → G'.linked v ≡ true
  pub froze : (r v : ℕ) → G.froze r v ≡ true → G'.froze r v ≡ true
  pub tried : (r : ℕ) → G.tried r ≡ true → G'.tried r ≡ true
  -- words and states
  pub seen : (v : ℕ) (u : Update) → Seen X G v u → Seen X' G' v u
  -- a word that was seen does not come back
  pub stood : (v : ℕ) (u : Update) → Seen X G v u → X'.update v ≡ u → X.update v ≡ u
  pub final : (u : Update) → KnownWord X u → Final X u → Final X' u
  pub begun : (r : ℕ) → Filled X r → trying ≤ X.state r → trying ≤ X'.state r
  pub past : (r : ℕ) → Filled X r → Past X (X.filling r) → Past X' (X.filling r)
  pub passed : (r j : ℕ) → Filled X r → InList (X.filling r) j → Passed X G (X.filling r) j → Passed X' G' (X.filling r) j
  pub lost : (r : ℕ) → Filled X r → Lost X G r (X.filling r) → Lost X' G' r (X.filling r)
  -- a child word changes only where the record of the update word is in progress
  pub kids : (v : ℕ) → G.linked v ≡ true → ((s : Bool) → X'.kid s v ≡ X.kid s v) ⊎ Live X (X.update v).info.0
  -- what another worker has taken is its own: an unfilled record, a filled one that nobody has seen, and the nodes made with it
  pub unfilled : (r : ℕ) → r < X.records → G.owner r ≢ w → (X.filling r).count ≡ 0 → (X'.filling r).count ≡ 0
  pub unseen : (r : ℕ) → Filled X r → G.owner r ≢ w → Unseen G r → Unseen G' r × (X'.state r ≡ X.state r) × (G'.tried r ≡ G.tried r)
  pub mine : (v : ℕ) → v < X.nodes → G.linked v ≡ false → G.maker v < X.records → G.owner (G.maker v) ≢ w → Unseen G (G.maker v) → (G'.linked v ≡ false) × ((s : Bool) → X'.kid s v ≡ X.kid s v)

-- ---- nothing shared is changed

pub rely_counter : (w : ℕ) (X : View) (G : Ghost) (c : ℕ) → Rely w X (w_counter X c) G G
rely_counter w X G c = record {
  filled = λ r f. f;
  filling = λ r f. refl;
  fixed = λ v l. refl;
  maker = λ v l. refl;
  owner = λ r l. refl;
  nodes = omega arith;
  records = omega arith;
  linked = λ v h. h;
  froze = λ r v h. h;
  tried = λ r h. h;
  seen = λ v u h. h;
  stood = λ v u s e. e;
  final = λ u k h. h;
  begun = λ r f h. h;
  past = λ r f h. h;
  passed = λ r j f i h. h;
  lost = λ r f h. h;
  kids = λ v h. inl (λ s. refl);
  unfilled = λ r l o h. h;
  unseen = λ r f o h. (h, refl, refl);
  mine = λ v l h m o u. (h, λ s. refl);
}

pub rely_same : (w : ℕ) (X : View) (G : Ghost) → Rely w X X G G
rely_same w X G = rely_counter w X G X.counter

pub counter_holds : (X : View) (G : Ghost) (c : ℕ) → Holds X G → Holds (w_counter X c) G
counter_holds X G c H = record {
  records = λ r f. again r (H.records r f);
  unfilled = H.unfilled;
  blank = H.blank;
  dummy = H.dummy;
  stamps = H.stamps;
  words = H.words;
  used = H.used;
  kids = H.kids;
  prevs = H.prevs;
}
  where
    kind' : (r : ℕ) → Planted X G r (X.filling r) ⊎ Copied X G r (X.filling r) → Planted (w_counter X c) G r (X.filling r) ⊎ Copied (w_counter X c) G r (X.filling r)
    kind' r (inl p) = inl p
    kind' r (inr d) = inr (record { four = d.four; side = d.side; inner = d.inner; sibling = λ h. d.sibling (record { open' = h.open'; word = h.word }); copy = λ e h. d.copy e (record { open' = h.open'; word = h.word }); kind = d.kind; phase = d.phase })

    again : (r : ℕ) → RecordHolds X G r (X.filling r) → RecordHolds (w_counter X c) G r (X.filling r)
    again r was = record { old_final = was.old_final; old-seen = was.old-seen; old_stamp = was.old_stamp; frozen = was.frozen; in_order = was.in_order; later = was.later; holds = was.holds; tried_state = was.tried_state; trying_tried = was.trying_tried; most = was.most; commits = was.commits; aborts = was.aborts; lists = was.lists; makes = was.makes; fresh = was.fresh; kind = kind' r was.kind }

-- ---- a freeze CAS that succeeds

-- a record that can still be frozen at j is not lost
pub not_lost : (X : View) (G : Ghost) (r j : ℕ) → RecordHolds X G r (X.filling r) → InList (X.filling r) j → FrozeTo G r (X.filling r) j → X.update (node_of (X.filling r) j) ≡ old_of (X.filling r) j → Lost X G r (X.filling r) → ⊥
not_lost X G r j R l to hit h = elim (dec_le (suc h.at) j) [
  | yes a ↦ true≢false (sym (to h.at h.list.low a) ∙ h.not)
  | no a ↦ elim (dec_le (suc j) h.at) [
    | yes b ↦
        let low : G.stamp r ≤ G.stamp (X.update (node_of (X.filling r) j)).info.0 = R.later _ (h.before j l.low b) in
        let high : G.stamp (old_of (X.filling r) j).info.0 < G.stamp r = R.old_stamp j l in
        let same : G.stamp (X.update (node_of (X.filling r) j)).info.0 ≡ G.stamp (old_of (X.filling r) j).info.0 = ap (λ (u : Update). G.stamp u.info.0) hit in
        omega arith
    | no b ↦
        let same : h.at ≡ j = omega arith in
        let gone : Passed X G (X.filling r) j = rw same at h.gone in
        let still : G.stamp (X.update (node_of (X.filling r) j)).info.0 ≡ G.stamp (old_of (X.filling r) j).info.0 = ap (λ (u : Update). G.stamp u.info.0) hit in
        omega arith
  ]
]

pub rely_freeze : (w : ℕ) (X : View) (G : Ghost) (H : Holds X G) (r j m : ℕ) (f : Filled X r) (l : InList (X.filling r) j) (live : Live X r) (hit : X.update (node_of (X.filling r) j) ≡ old_of (X.filling r) j) (order : (j ≡ 1) ⊎ (G.froze r (node_of (X.filling r) 1) ≡ true)) → (Lost X G r (X.filling r) → ⊥) → (Unseen G r → G.owner r ≡ w)
    → Rely w X (w_update X (node_of (X.filling r) j) (update m (record_no r))) G (g_froze G r (node_of (X.filling r) j))
rely_freeze w X G H r j m f l live hit order alive own = record {
  filled = λ q g. g;
  filling = λ q g. refl;
  fixed = λ v l. refl;
  maker = λ v l. refl;
  owner = λ q l. refl;
  nodes = omega arith;
  records = omega arith;
  linked = λ v h. h;
  froze = λ q v h. froze_more G r (node_of (X.filling r) j) q v h;
  tried = λ q h. h;
  seen = freeze.seen' X G H r j m f l live hit order;
  stood = λ v u s e. by_equal v (node_of (X.filling r) j) (λ d. absurd (back v u s d e)) (λ ne. sym (change_other X.update (node_of (X.filling r) j) (update m (record_no r)) v ne) ∙ e);
  final = λ u k h. h;
  begun = λ q g h. h;
  past = λ q g h. h;
  passed = λ q k g i h. omega (arith, up (node_of (X.filling q) k));
  lost = λ q g h. by_equal q r (λ e. absurd (alive (rw e at h))) (λ e. record { at = h.at; list = h.list; before = λ i a b. froze_more G r (node_of (X.filling r) j) q _ (h.before i a b); not = same q e _ ∙ h.not; gone = omega (arith, h.gone, up (node_of (X.filling q) h.at)) });
  kids = λ v h. inl (λ s. refl);
  unfilled = λ q l o h. h;
  unseen = λ q g o h. ((λ v. same q (λ e. o (rw e (own (rw e at h)))) v ∙ h v), refl, refl);
  mine = λ v l h k o u. (h, λ s. refl);
}
  where
    up : (v : ℕ) → G.stamp (X.update v).info.0 ≤ G.stamp (change X.update (node_of (X.filling r) j) (update m (record_no r)) v).info.0
    up = stamp_up X G H r j m f l live hit order

    -- a word of r at the node would have been frozen there by r before
    back : (v : ℕ) (u : Update) → Seen X G v u → v ≡ node_of (X.filling r) j → change X.update (node_of (X.filling r) j) (update m (record_no r)) v ≡ u → ⊥
    back v u s d e =
        let named : r ≡ u.info.0 = ap (λ (y : Update). y.info.0) (sym (change_same X.update (node_of (X.filling r) j) (update m (record_no r))) ∙ (rw d at e)) in
        let other : u.info.0 ≢ 0 = λ z. let none : (X.filling r).count ≡ 0 = rw (named, z) H.dummy.1 in omega (arith, f.some) in
        let mine : G.froze r v ≡ true = rw named (s.mine other) in
        let low : G.stamp r ≤ G.stamp (X.update v).info.0 = (H.records r f).later v mine in
        let high : G.stamp (old_of (X.filling r) j).info.0 < G.stamp r = (H.records r f).old_stamp j l in
        let stands : X.update v ≡ old_of (X.filling r) j = rw d hit in
        let z : G.stamp r ≤ G.stamp (old_of (X.filling r) j).info.0 = rw stands at low in
        omega (arith, high, z)

    same : (q : ℕ) → q ≢ r → (v : ℕ) → (g_froze G r (node_of (X.filling r) j)).froze q v ≡ G.froze q v
    same q ne v = ap (λ h. h v) (change_other G.froze r (change (G.froze r) (node_of (X.filling r) j) true) q ne)

-- ---- a change of a state

pub rely_state : (w : ℕ) (X : View) (G : Ghost) (H : Holds X G) (r v : ℕ) (t : ℕ → Bool) (S : Sets X G r v t) → (trying ≤ X.state r → trying ≤ v) → (G.tried r ≡ true → t r ≡ true) → (Unseen G r → ⊥) → Rely w X (w_state X r v) G (g_tried G t)
rely_state w X G H r v t S up more shown = record {
  filled = λ q g. g;
  filling = λ q g. refl;
  fixed = λ y l. refl;
  maker = λ y l. refl;
  owner = λ q l. refl;
  nodes = omega arith;
  records = omega arith;
  linked = λ y h. h;
  froze = λ q y h. h;
  tried = λ q h. by_equal q r (λ e. rw e (more (rw e at h))) (λ e. S.other q e ∙ h);
  seen = λ q w h. h;
  stood = λ v u s e. e;
  final = λ u k h. setting.final' X G H r v t S u.info.0 h;
  begun = λ q g h. change_case (λ s. trying ≤ s) X.state r v q (λ e. up (rw e at h)) (λ e. h);
  past = λ q g h. h;
  passed = λ q k g i h. h;
  lost = λ q g h. h;
  kids = λ y h. inl (λ s. refl);
  unfilled = λ q l o h. h;
  unseen = λ q g o h. let ne : q ≢ r = λ e. shown (rw e at h) in (h, change_other X.state r v q ne, S.other q ne);
  mine = λ y l h k o u. (h, λ s. refl);
}

-- ---- a record filled

pub rely_fill : (w : ℕ) (X : View) (G : Ghost) (H : Holds X G) (r : ℕ) (f : Filling) (F : Fills X G r f) → G.owner r ≡ w → Rely w X (w_record X r undecided f) G (g_filled G r)
rely_fill w X G H r f F own = record {
  filled = filling.filled' X G H r f F;
  filling = λ q g. filling.same X G H r f F q (filling.differs X G H r f F q g);
  fixed = λ v l. refl;
  maker = λ v l. refl;
  owner = λ q l. refl;
  nodes = omega arith;
  records = omega arith;
  linked = λ v h. h;
  froze = λ q v h. h;
  tried = λ q h. h;
  seen = filling.seen' X G H r f F;
  stood = λ v u s e. e;
  final = filling.final' X G H r f F;
  begun = λ q g h. rw (filling.state_same X G H r f F q (filling.differs X G H r f F q g)) h;
  past = λ q g h. h;
  passed = λ q k g i h. filling.passed' X G H r f F q g k i h;
  lost = λ q g h. record { at = h.at; list = h.list; before = h.before; not = h.not; gone = filling.passed' X G H r f F q g h.at h.list h.gone };
  kids = λ v h. inl (λ s. refl);
  unfilled = λ q l o h. ap (λ (g : Filling). g.count) (change_other X.filling r f q (λ e. o (rw e own))) ∙ h;
  unseen = λ q g o h. (h, filling.state_same X G H r f F q (filling.differs X G H r f F q g), refl);
  mine = λ v l h k o u. (h, λ s. refl);
}
