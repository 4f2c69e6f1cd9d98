-- Line 102: an unfilled record is filled with what its worker has collected, and gets the next stamp.
use Rattle.std.specs.Prelude.{ℕ, suc, ◌≤◌, ◌<◌, ◌≡◌, ◌≢◌, ◌⊎◌, false}
use Rattle.std.proofs.Common.{sym, ap, ◌∙◌, subst, inl, inr, true≢false, arith}
use Rattle.laws.specs.Changed.{change, change_same, change_other, change_case, by_equal}
use Rattle.shapes.specs.declared.Update.{Update}
use Rattle.shapes.specs.declared.Filling.{Filling}
use Rattle.tables.specs.Names.{node}
use Rattle.tables.specs.Records.{undecided, trying, committed, aborted}
use Rattle.sound.specs.Meaning.{entry_of}
use Rattle.views.specs.View.{View, w_record}
use Rattle.protocol.specs.Ghost.{Ghost, old_of, Filled, InList, Passed, KnownWord, Seen, Final}
use Rattle.protocol.specs.Invariant.{Lists, Makes, Planted, Held, Copied, RecordHolds, Holds}

abbrev pub g_filled : Ghost → ℕ → Ghost
g_filled G r = record { stamp = change G.stamp r G.next; next = suc G.next; froze = G.froze; tried = G.tried; linked = G.linked; maker = G.maker; owner = G.owner }

-- what the filling of r must be; its kind is said of the view afterwards
pub record Fills (X : View) (G : Ghost) (r : ℕ) (f : Filling) : Type 0 where
  pub used : r < X.records
  pub empty : (X.filling r).count ≡ 0
  pub other : r ≢ 0
  pub final : (j : ℕ) → 1 ≤ j → j ≤ f.count → Final X (entry_of f j).old
  pub seen : (j : ℕ) → 1 ≤ j → j ≤ f.count → Seen X G (entry_of f j).node.0 (entry_of f j).old
  pub lists : Lists G.linked X.fixed f
  pub makes : Makes X.nodes G.maker X.fixed r f
  pub fresh : G.linked f.new.0 ≡ false
  pub kind : Planted (w_record X r undecided f) (g_filled G r) r f ⊎ Copied (w_record X r undecided f) (g_filled G r) r f

module _ (X : View) (G : Ghost) (H : Holds X G) (r : ℕ) (f : Filling) (F : Fills X G r f) where
  abbrev X' : View
  X' = w_record X r undecided f

  abbrev G' : Ghost
  G' = g_filled G r

  empty_not : Filled X r → ⊥
  empty_not g = omega (arith, g.some, F.empty)

  pub differs : (q : ℕ) → Filled X q → q ≢ r
  differs q g e = empty_not (rw (← e) g)

  -- another record is as it was
  pub same : (q : ℕ) → q ≢ r → X'.filling q ≡ X.filling q
  same q ne = change_other X.filling r f q ne

  mine : X'.filling r ≡ f
  mine = change_same X.filling r f

  pub state_same : (q : ℕ) → q ≢ r → X'.state q ≡ X.state q
  state_same q ne = change_other X.state r undecided q ne

  stamp_same : (q : ℕ) → q ≢ r → G'.stamp q ≡ G.stamp q
  stamp_same q ne = change_other G.stamp r G.next q ne

  pub filled' : (q : ℕ) → Filled X q → Filled X' q
  filled' q g = record { used = g.used; some = rw (same q (differs q g)) g.some }

  filled_was : (q : ℕ) → q ≢ r → Filled X' q → Filled X q
  filled_was q ne g = record { used = g.used; some = rw (same q ne) at g.some }

  known_differs : (w : Update) → KnownWord X w → w.info.0 ≢ r
  known_differs w (inl e) d = F.other (sym d ∙ e)
  known_differs w (inr g) d = differs _ g d

  known' : (w : Update) → KnownWord X w → KnownWord X' w
  known' w (inl e) = inl e
  known' w (inr g) = inr (filled' _ g)

  word_stamp : (v : ℕ) → v < X.nodes → G'.stamp (X.update v).info.0 ≡ G.stamp (X.update v).info.0
  word_stamp v l = stamp_same _ (known_differs (X.update v) (H.words v l).0)

  pub seen' : (v : ℕ) (w : Update) → Seen X G v w → Seen X' G' v w
  seen' v w h = record { used = h.used; known = known' w h.known; since = elim h.since [ inl e ↦ inl e | inr p ↦ inr (rw (stamp_same _ (known_differs w h.known), word_stamp v h.used) p) ]; mine = h.mine }

  pub final' : (w : Update) → KnownWord X w → Final X w → Final X' w
  final' w k h = rw (state_same _ (known_differs w k)) h

  -- ---- the record itself

  own : RecordHolds X' G' r f
  own = record {
    old_final = λ j i. final' (old_of f j) (F.seen j i.low i.high).known (F.final j i.low i.high);
    old-seen = λ j i. seen' _ _ (F.seen j i.low i.high);
    old_stamp = λ j i. rw (change_same G.stamp r G.next, stamp_same _ (known_differs (old_of f j) (F.seen j i.low i.high).known)) (H.stamps _);
    frozen = λ v h. absurd (true≢false (sym h ∙ none.2 v));
    in_order = λ v h. absurd (true≢false (sym h ∙ none.2 v));
    later = λ v h. absurd (true≢false (sym h ∙ none.2 v));
    holds = λ v h. absurd (true≢false (sym h ∙ none.2 v));
    tried_state = λ h. absurd (true≢false (sym h ∙ none.1));
    trying_tried = λ e. let z : ◌≡◌ {A = ℕ} undecided trying = sym (change_same X.state r undecided) ∙ e in absurd (omega arith);
    most = rw (change_same X.state r undecided) (omega arith);
    commits = λ e. let z : undecided ≡ committed = sym (change_same X.state r undecided) ∙ e in absurd (omega arith);
    aborts = λ e. let z : undecided ≡ aborted = sym (change_same X.state r undecided) ∙ e in absurd (omega arith);
    lists = F.lists;
    makes = F.makes;
    fresh = λ _. F.fresh;
    kind = F.kind;
  }
    where
      none : (G.stamp r ≡ 0) × (G.tried r ≡ false) × ((v : ℕ) → G.froze r v ≡ false)
      none = H.blank r empty_not

  -- ---- another record

  module _ (q : ℕ) (g : Filled X q) where
    ne : q ≢ r
    ne = differs q g

    was : RecordHolds X G q (X.filling q)
    was = H.records q g

    stamp_q : G'.stamp q ≡ G.stamp q
    stamp_q = stamp_same q ne

    pub passed' : (j : ℕ) → InList (X.filling q) j → Passed X G (X.filling q) j → Passed X' G' (X.filling q) j
    passed' j i p = rw (stamp_same _ (known_differs (old_of (X.filling q) j) (was.old-seen j i).known), word_stamp _ (was.old-seen j i).used) p

    held_was : (j : ℕ) → Held X' q (X.filling q) j → Held X q (X.filling q) j
    held_was j h = record { open' = h.open'; word = elim h.word [ inl e ↦ inl e | inr p ↦ inr (p.0, rw (state_same q ne) at p.1) ] }

    other_kind : Planted X G q (X.filling q) ⊎ Copied X G q (X.filling q) → Planted X' G' q (X.filling q) ⊎ Copied X' G' q (X.filling q)
    other_kind (inl p) = inl p
    other_kind (inr c) = inr (record { four = c.four; side = c.side; inner = c.inner; sibling = λ h. c.sibling (held_was 2 h); copy = λ e h. c.copy e (held_was 4 h); kind = c.kind; phase = c.phase })

    other : RecordHolds X' G' q (X.filling q)
    other = record {
      old_final = λ j i. final' (old_of (X.filling q) j) (was.old-seen j i).known (was.old_final j i);
      old-seen = λ j i. seen' _ _ (was.old-seen j i);
      old_stamp = λ j i. rw (stamp_q, stamp_same _ (known_differs (old_of (X.filling q) j) (was.old-seen j i).known)) (was.old_stamp j i);
      frozen = was.frozen;
      in_order = was.in_order;
      later = λ v h. rw (stamp_q, word_stamp v (was.frozen v h)) (was.later v h);
      holds = λ v h live. was.holds v h (rw (state_same q ne) at live);
      tried_state = λ h. rw (state_same q ne) (was.tried_state h);
      trying_tried = λ e. was.trying_tried (sym (state_same q ne) ∙ e);
      most = rw (state_same q ne) was.most;
      commits = λ e. was.commits (sym (state_same q ne) ∙ e);
      aborts = λ e t. let h = was.aborts (sym (state_same q ne) ∙ e) t in record { at = h.at; list = h.list; before = h.before; not = h.not; gone = passed' h.at h.list h.gone };
      lists = was.lists;
      makes = was.makes;
      fresh = was.fresh;
      kind = other_kind was.kind;
    }

  pub fill_holds : Holds X' G'
  fill_holds = record {
    records = λ q g. by_equal q r
        (λ e. rw e (subst (RecordHolds X' G' r) (sym mine) own))
        (λ e. subst (RecordHolds X' G' q) (sym (same q e)) (other q (filled_was q e g)));
    unfilled = λ q l e. by_equal q r
        (λ d. let z : f.count ≡ 0 = ap (λ (h : Filling). h.count) (sym mine) ∙ (rw d at e) in absurd (omega (arith, F.lists.two)))
        (λ d. state_same q d ∙ H.unfilled q l (ap (λ (h : Filling). h.count) (sym (same q d)) ∙ e));
    blank = λ q n.
        let d : q ≢ r = λ e. n (rw e (record { used = F.used; some = rw mine (omega (arith, F.lists.two)) })) in
        let was = H.blank q (λ g. n (filled' q g)) in (stamp_same q d ∙ was.0, was.1, was.2);
    dummy = (H.dummy.0, ap (λ (h : Filling). h.count) (same 0 (λ e. F.other (sym e))) ∙ H.dummy.1);
    stamps = λ q. change_case (λ s. s < suc G.next) G.stamp r G.next q (λ e. omega arith) (λ e. omega (arith, H.stamps q));
    words = λ v l. let was = H.words v l in (known' (X.update v) was.0, was.1);
    used = H.used;
    kids = H.kids;
    prevs = H.prevs;
  }
