-- A change of a record's state keeps the shared invariant: to TRY or ABORT from ⊥, to COMMIT with all frozen and the child CAS past, to ABORT when lost.
use Rattle.std.specs.Prelude.{ℕ, ◌≤◌, ◌<◌, ◌≡◌, refl, ◌≢◌, ◌⊎◌, Bool, true}
use Rattle.std.proofs.Common.{sym, ◌∙◌, inl, inr, arith}
use Rattle.laws.specs.Changed.{change, change_same, change_other, change_case, by_equal}
use Rattle.tables.specs.Records.{undecided, trying, committed, aborted}
use Rattle.views.specs.View.{View, w_state}
use Rattle.protocol.specs.Ghost.{Ghost, Filled, Past, FrozeAll, Lost, Live}
use Rattle.protocol.specs.Invariant.{Planted, Held, Copied, RecordHolds, Holds}

abbrev pub g_tried : Ghost → (ℕ → Bool) → Ghost
g_tried G t = record { stamp = G.stamp; next = G.next; froze = G.froze; tried = t; linked = G.linked; maker = G.maker; owner = G.owner }

-- what a change of r's state to v must be
pub record Sets (X : View) (G : Ghost) (r v : ℕ) (t : ℕ → Bool) : Type 0 where
  pub filled : Filled X r
  pub live : v < committed → X.state r < committed
  pub final : committed ≤ X.state r → committed ≤ v
  pub most : v ≤ aborted
  pub tried : t r ≡ true → trying ≤ v
  pub tries : v ≡ trying → t r ≡ true
  pub commits : v ≡ committed → (t r ≡ true) × FrozeAll G r (X.filling r) × Past X (X.filling r)
  pub aborts : v ≡ aborted → t r ≡ true → Lost X G r (X.filling r)
  pub other : (q : ℕ) → q ≢ r → t q ≡ G.tried q

module _ (X : View) (G : Ghost) (H : Holds X G) (r v : ℕ) (t : ℕ → Bool) (S : Sets X G r v t) where
  abbrev X' : View
  X' = w_state X r v

  abbrev G' : Ghost
  G' = g_tried G t

  pub live_was : (q : ℕ) → Live X' q → Live X q
  live_was q = change_case (λ s. s < committed → X.state q < committed) X.state r v q (λ e h. rw e (S.live h)) (λ e h. h)

  pub final' : (q : ℕ) → committed ≤ X.state q → committed ≤ X'.state q
  final' q = change_case (λ s. committed ≤ X.state q → committed ≤ s) X.state r v q (λ e h. S.final (rw (← e) h)) (λ e h. h)

  held_was : (q k : ℕ) → Held X' q (X.filling q) k → Held X q (X.filling q) k
  held_was q k h = record { open' = h.open'; word = elim h.word [ inl e ↦ inl e | inr p ↦ inr (p.0, live_was q p.1) ] }

  record' : (q : ℕ) → Filled X' q → RecordHolds X' G' q (X.filling q)
  record' q g =
      let was : RecordHolds X G q (X.filling q) = H.records q g in
      record {
        old_final = λ k i. final' _ (was.old_final k i);
        old-seen = was.old-seen;
        old_stamp = λ k i. was.old_stamp k i;
        frozen = was.frozen;
        in_order = was.in_order;
        later = was.later;
        holds = λ y h live. was.holds y h (live_was q live);
        tried_state = by_equal q r (λ e. rw (e, change_same X.state r v) S.tried) (λ e. rw (S.other q e, change_other X.state r v q e) was.tried_state);
        trying_tried = by_equal q r (λ e h. rw e (S.tries (sym (change_same X.state r v) ∙ (rw e at h)))) (λ e h. S.other q e ∙ was.trying_tried (sym (change_other X.state r v q e) ∙ h));
        most = change_case (λ s. s ≤ aborted) X.state r v q (λ e. S.most) (λ e. was.most);
        commits = by_equal q r
            (λ e h. rw e (let c = S.commits (sym (change_same X.state r v) ∙ (rw e at h)) in (c.0, (λ k i. c.1 k i), c.2)))
            (λ e h. let c = was.commits (sym (change_other X.state r v q e) ∙ h) in (S.other q e ∙ c.0, (λ k i. c.1 k i), c.2));
        aborts = by_equal q r
            (λ e h d. rw e ((S.aborts (sym (change_same X.state r v) ∙ (rw e at h)) (rw e at d))))
            (λ e h d. (was.aborts (sym (change_other X.state r v q e) ∙ h) (sym (S.other q e) ∙ d)));
        lists = was.lists;
        makes = was.makes;
        fresh = was.fresh;
        kind = kind' was.kind;
      }
    where
      kind' : Planted X G q (X.filling q) ⊎ Copied X G q (X.filling q) → Planted X' G' q (X.filling q) ⊎ Copied X' G' q (X.filling q)
      kind' (inl p) = inl p
      kind' (inr c) = inr (record { four = c.four; side = c.side; inner = c.inner; sibling = λ h. c.sibling (held_was q 2 h); copy = λ e h. c.copy e (held_was q 4 h); kind = c.kind; phase = c.phase })

  pub state_holds : Holds X' G'
  state_holds = record {
    records = record';
    unfilled = λ q l e. change_other X.state r v q (λ d. let some : 0 < (X.filling q).count = rw d S.filled.some in omega arith) ∙ H.unfilled q l e;
    blank = λ q n. let was = H.blank q n in (was.0, S.other q (λ e. n (rw e S.filled)) ∙ was.1, was.2);
    dummy = H.dummy;
    stamps = H.stamps;
    words = H.words;
    used = H.used;
    kids = H.kids;
    prevs = H.prevs;
  }

-- ---- the four changes of HELP

module _ (X : View) (G : Ghost) (H : Holds X G) (r : ℕ) (f : Filled X r) where
  R : RecordHolds X G r (X.filling r)
  R = H.records r f

  -- line 113
  pub sets_try : X.state r ≡ undecided → Sets X G r trying (change G.tried r true)
  sets_try e = record { filled = f; live = λ _. omega arith; final = λ h. absurd (omega arith); most = omega arith; tried = λ _. omega arith; tries = λ _. change_same G.tried r true; commits = λ z. absurd (omega arith); aborts = λ z. absurd (omega arith); other = λ q ne. change_other G.tried r true q ne }

  -- line 112
  pub sets-early : X.state r ≡ undecided → Sets X G r aborted G.tried
  sets-early e = record { filled = f; live = λ z. absurd (omega arith); final = λ _. omega arith; most = omega arith; tried = λ _. omega arith; tries = λ z. absurd (omega arith); commits = λ z. absurd (omega arith); aborts = λ _ t. let one : trying ≤ X.state r = R.tried_state t in absurd (omega arith); other = λ q ne. refl }

  -- line 124
  pub sets_commit : G.tried r ≡ true → FrozeAll G r (X.filling r) → Past X (X.filling r) → Sets X G r committed G.tried
  sets_commit t all past = record { filled = f; live = λ z. absurd (omega arith); final = λ _. omega arith; most = omega arith; tried = λ _. omega arith; tries = λ z. absurd (omega arith); commits = λ _. (t, all, past); aborts = λ z. absurd (omega arith); other = λ q ne. refl }

  -- line 126
  pub sets_abort : Lost X G r (X.filling r) → Sets X G r aborted G.tried
  sets_abort lost = record { filled = f; live = λ z. absurd (omega arith); final = λ _. omega arith; most = omega arith; tried = λ _. omega arith; tries = λ z. absurd (omega arith); commits = λ z. absurd (omega arith); aborts = λ _ t. lost; other = λ q ne. refl }
