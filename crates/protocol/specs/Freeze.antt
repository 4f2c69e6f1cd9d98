-- A freeze CAS that succeeds, of a record in progress on one of its nodes, keeps the shared invariant.
use Rattle.std.specs.Prelude.{ℕ, ◌≤◌, ◌<◌, ◌≡◌, refl, ◌≢◌, ◌⊎◌, true}
use Rattle.std.proofs.Common.{sym, ap, ◌∙◌, subst, inl, inr, arith}
use Rattle.laws.specs.Changed.{change, change_same, change_other, change_case, by_equal}
use Rattle.shapes.specs.declared.Update.{Update}
use Rattle.tables.specs.Names.{record_no, update}
use Rattle.tables.specs.Records.{committed, aborted}
use Rattle.views.specs.View.{View, w_update}
use Rattle.protocol.specs.Ghost.{Ghost, node_of, old_of, Filled, InList, Passed, Lost, Live, KnownWord, Seen}
use Rattle.protocol.specs.Invariant.{Planted, Held, Copied, RecordHolds, Holds}

-- the record froze one node more
abbrev pub g_froze : Ghost → ℕ → ℕ → Ghost
g_froze G r x = record { stamp = G.stamp; next = G.next; froze = change G.froze r (change (G.froze r) x true); tried = G.tried; linked = G.linked; maker = G.maker; owner = G.owner }

pub froze_more : (G : Ghost) (r x q v : ℕ) → G.froze q v ≡ true → (g_froze G r x).froze q v ≡ true
froze_more G r x q v h = change_case (λ f. f v ≡ true) G.froze r _ q (λ e. change_case (λ b. b ≡ true) (G.froze r) x true v (λ _. refl) (λ _. rw (← e) h)) (λ _. h)

froze_was : (G : Ghost) (r x q v : ℕ) → (g_froze G r x).froze q v ≡ true → (G.froze q v ≡ true) ⊎ ((q ≡ r) × (v ≡ x))
froze_was G r x q v = change_case (λ f. f v ≡ true → (G.froze q v ≡ true) ⊎ ((q ≡ r) × (v ≡ x))) G.froze r _ q
    (λ e. change_case (λ b. b ≡ true → (G.froze q v ≡ true) ⊎ ((q ≡ r) × (v ≡ x))) (G.froze r) x true v (λ d h. inr (e, d)) (λ d h. inl (rw e h)))
    (λ e h. inl h)

module _ (X : View) (G : Ghost) (H : Holds X G) (r j m : ℕ) (f : Filled X r) (l : InList (X.filling r) j) (live : Live X r) (hit : X.update (node_of (X.filling r) j) ≡ old_of (X.filling r) j) (order : (j ≡ 1) ⊎ (G.froze r (node_of (X.filling r) 1) ≡ true)) where
  abbrev x : ℕ
  x = node_of (X.filling r) j

  abbrev u : Update
  u = update m (record_no r)

  abbrev X' : View
  X' = w_update X x u

  abbrev G' : Ghost
  G' = g_froze G r x

  R : RecordHolds X G r (X.filling r)
  R = H.records r f

  -- stamps rise along an update word
  rises : G.stamp (X.update x).info.0 < G.stamp r
  rises = rw hit (R.old_stamp j l)

  pub stamp_up : (v : ℕ) → G.stamp (X.update v).info.0 ≤ G.stamp (X'.update v).info.0
  stamp_up v = change_case (λ w. G.stamp (X.update v).info.0 ≤ G.stamp w.info.0) X.update x u v (λ e. rw e (omega (arith, rises))) (λ e. omega arith)

  pub seen' : (v : ℕ) (w : Update) → Seen X G v w → Seen X' G' v w
  seen' v w h = record { used = h.used; known = h.known; since = by_equal v x (λ e. inr (rw (e, change_same X.update x u) (older e h.since))) (λ e. rw (change_other X.update x u v e) h.since); mine = λ ne. froze_more G r x _ v (h.mine ne) }
    where
      older : v ≡ x → (X.update v ≡ w) ⊎ (G.stamp w.info.0 < G.stamp (X.update v).info.0) → G.stamp w.info.0 < G.stamp r
      older e (inl p) = let same : X.update x ≡ w = rw (← e) p in rw (← same) rises
      older e (inr p) = let q : G.stamp w.info.0 < G.stamp (X.update x).info.0 = rw (← e) p in omega (arith, rises)

  passed' : (q k : ℕ) → Passed X G (X.filling q) k → Passed X' G' (X.filling q) k
  passed' q k h = omega (arith, stamp_up (node_of (X.filling q) k))

  -- a record whose word is final, or that is in progress, at the node: this one
  held_was : (q k : ℕ) → Filled X q → InList (X.filling q) k → Held X' q (X.filling q) k → Held X q (X.filling q) k
  held_was q k g i h = record { open' = h.open'; word = change_case (λ w. Kept w → Kept (X.update (node_of (X.filling q) k))) X.update x u (node_of (X.filling q) k) here (λ e p. p) h.word }
    where
      Kept : Update → Type 0
      Kept w = (w ≡ old_of (X.filling q) k) ⊎ ((w.info.0 ≡ q) × Live X q)

      here : node_of (X.filling q) k ≡ x → Kept u → Kept (X.update (node_of (X.filling q) k))
      here e (inl p) =
          let final : committed ≤ X.state (old_of (X.filling q) k).info.0 = (H.records q g).old_final k i in
          let same : (old_of (X.filling q) k).info.0 ≡ r = ap (λ (w : Update). w.info.0) (sym p) in
          let z : committed ≤ X.state r = rw same at final in
          absurd (omega (arith, live))
      here e (inr p) = inl (subst (λ y. node_of (X.filling y) k ≡ x → InList (X.filling y) k → X.update (node_of (X.filling y) k) ≡ old_of (X.filling y) k) p.0 own e i)
        where
          own : node_of (X.filling r) k ≡ x → InList (X.filling r) k → X.update (node_of (X.filling r) k) ≡ old_of (X.filling r) k
          own d i' = let same : k ≡ j = R.lists.apart k j i' l d in rw same hit

  record' : (q : ℕ) → Filled X' q → RecordHolds X' G' q (X.filling q)
  record' q g =
      let was : RecordHolds X G q (X.filling q) = H.records q g in
      record {
        old_final = λ k i. was.old_final k i;
        old-seen = λ k i. seen' _ _ (was.old-seen k i);
        old_stamp = λ k i. was.old_stamp k i;
        frozen = λ v h. elim (froze_was G r x q v h) [ inl p ↦ was.frozen v p | inr p ↦ rw p.1 (H.used x (R.lists.linked j l)) ];
        in_order = λ v h. elim (froze_was G r x q v h) [
          | inl p ↦ froze_more G r x q _ (was.in_order v p)
          | inr p ↦ elim order [
            | inl e ↦ rw (p.0, e, change_same G.froze r (change (G.froze r) (node_of (X.filling r) 1) true)) (change_same (G.froze r) (node_of (X.filling r) 1) true)
            | inr e ↦ froze_more G r x q _ (rw p.0 e)
          ]
        ];
        later = λ v h. elim (froze_was G r x q v h) [
          | inl p ↦ omega (arith, was.later v p, stamp_up v)
          | inr p ↦ rw (p.0, p.1, change_same X.update x u) (omega arith)
        ];
        holds = λ v h live'. elim (froze_was G r x q v h) [
          | inl p ↦ change_case (λ w. w.info.0 ≡ q) X.update x u v
              (λ e.
              let same : (X.update x).info.0 ≡ q = rw (← e) (was.holds v p live') in
              let final : committed ≤ X.state (X.update x).info.0 = rw hit (R.old_final j l) in
              let z : committed ≤ X.state q = rw same at final in
              absurd (omega arith))
              (λ e. was.holds v p live')
          | inr p ↦ rw (p.1, change_same X.update x u) (sym p.0)
        ];
        tried_state = was.tried_state;
        trying_tried = was.trying_tried;
        most = was.most;
        commits = λ e. let c = was.commits e in (c.0, (λ k i. froze_more G r x q _ (c.1 k i)), c.2);
        aborts = λ e t. by_equal q r (λ d. let z : X.state r ≡ aborted = rw d at e in absurd (omega (arith, live))) (λ d. lost' d (was.aborts e t));
        lists = was.lists;
        makes = was.makes;
        fresh = was.fresh;
        kind = kind' was.kind;
      }
    where
      lost' : q ≢ r → Lost X G q (X.filling q) → Lost X' G' q (X.filling q)
      lost' ne h = record { at = h.at; list = h.list; before = λ k a b. froze_more G r x q _ (h.before k a b); not = ap (λ f. f (node_of (X.filling q) h.at)) (change_other G.froze r _ q ne) ∙ h.not; gone = passed' q _ h.gone }

      kind' : Planted X G q (X.filling q) ⊎ Copied X G q (X.filling q) → Planted X' G' q (X.filling q) ⊎ Copied X' G' q (X.filling q)
      kind' (inl p) = inl p
      kind' (inr c) = inr (record {
        four = c.four;
        side = c.side;
        inner = c.inner;
        sibling = λ h. c.sibling (held_was q 2 g (record { low = omega arith; high = omega (arith, c.four) }) h);
        copy = λ e h. c.copy e (held_was q 4 g (record { low = omega arith; high = omega (arith, c.four) }) h);
        kind = c.kind;
        phase = c.phase;
      })

  pub freeze_holds : Holds X' G'
  freeze_holds = record {
    records = record';
    unfilled = H.unfilled;
    blank = λ q n. let was = H.blank q n in (was.0, was.1, λ v. ap (λ h. h v) (change_other G.froze r _ q (λ e. n (rw e f))) ∙ was.2 v);
    dummy = H.dummy;
    stamps = H.stamps;
    words = λ v b. change_case (λ w. KnownWord X' w × (w.info.0 ≢ 0 → G'.froze w.info.0 v ≡ true)) X.update x u v
        (λ e. (inr f, λ ne. rw (e, change_same G.froze r (change (G.froze r) x true)) (change_same (G.froze r) x true)))
        (λ e. let was = H.words v b in (was.0, λ ne. froze_more G r x _ v (was.1 ne)));
    used = H.used;
    kids = H.kids;
    prevs = H.prevs;
  }
