-- What is written only where nobody looks (nodes and records being taken, a copy being made) keeps the shared invariant.
use Rattle.std.specs.Prelude.{ℕ, suc, ◌≤◌, ◌<◌, ◌≡◌, ◌⊎◌, Bool, true, false, ltb}
use Rattle.std.proofs.Common.{sym, ap, ap₂, ◌∙◌, subst, inl, inr, arith}
use Rattle.std.proofs.Math.Decide.{dec_le}
use Rattle.shapes.specs.declared.Update.{Update}
use Rattle.shapes.specs.declared.Filling.{Filling}
use Rattle.tables.specs.Names.{value}
use Rattle.tables.specs.NodeWrites.{Fixed}
use Rattle.tables.specs.Records.{aborted}
use Rattle.views.specs.View.{View}
use Rattle.protocol.specs.Ghost.{Ghost, node_of, old_of, par_of, old_child_of, new_child_of, side_of, link_of, Filled, InList, Lost, KnownWord, Seen, Final}
use Rattle.protocol.specs.Invariant.{Planted, Held, Copied, RecordHolds, Holds}

-- the two agree on the nodes of P, on used update words, and on used records; P has all that is linked or belongs to a filled record
pub record Agrees (X X' : View) (G G' : Ghost) (P : ℕ → Type 0) : Type 0 where
  pub fixed : (v : ℕ) → P v → X'.fixed v ≡ X.fixed v
  pub kid : (v : ℕ) → P v → (s : Bool) → X'.kid s v ≡ X.kid s v
  pub update : (v : ℕ) → v < X.nodes → X'.update v ≡ X.update v
  pub state : (r : ℕ) → r < X.records → X'.state r ≡ X.state r
  pub filling : (r : ℕ) → r < X.records → X'.filling r ≡ X.filling r
  pub nodes : X.nodes ≤ X'.nodes
  pub records : X.records ≤ X'.records
  pub new_words : (v : ℕ) → X.nodes ≤ v → v < X'.nodes → (X'.update v).info.0 ≡ 0
  pub new_records : (r : ℕ) → X.records ≤ r → r < X'.records → ((X'.filling r).count ≡ 0) × (X'.state r ≡ aborted)
  pub stamp : G'.stamp ≡ G.stamp
  pub next : G'.next ≡ G.next
  pub froze : G'.froze ≡ G.froze
  pub tried : G'.tried ≡ G.tried
  pub linked : G'.linked ≡ G.linked
  pub maker : (v : ℕ) → P v → G'.maker v ≡ G.maker v
  pub of_linked : (v : ℕ) → G.linked v ≡ true → P v
  pub of_record : (r v : ℕ) → Filled X r → G.maker v ≡ r → v < X.nodes → P v

module _ (X X' : View) (G G' : Ghost) (P : ℕ → Type 0) (H : Holds X G) (A : Agrees X X' G G' P) where
  pub filled' : (r : ℕ) → Filled X r → Filled X' r
  filled' r f = record { used = omega (arith, f.used, A.records); some = rw (A.filling r f.used) f.some }

  filled_was : (r : ℕ) → Filled X' r → Filled X r
  filled_was r f = elim (dec_le (suc r) X.records) [
    | yes l ↦ record { used = l; some = rw (A.filling r l) at f.some }
    | no l ↦ let none : (X'.filling r).count ≡ 0 = (A.new_records r (omega arith) f.used).0 in absurd (omega (arith, f.some))
  ]

  known_used : (u : Update) → KnownWord X u → u.info.0 < X.records
  known_used u (inl e) = omega (arith, H.dummy.0)
  known_used u (inr f) = f.used

  known' : (u : Update) → KnownWord X u → KnownWord X' u
  known' u (inl e) = inl e
  known' u (inr f) = inr (filled' _ f)

  pub seen' : (v : ℕ) (u : Update) → Seen X G v u → Seen X' G' v u
  seen' v u h = record { used = omega (arith, h.used, A.nodes); known = known' u h.known; since = rw (A.update v h.used, A.stamp) h.since; mine = λ ne. rw A.froze (h.mine ne) }

  pub final' : (u : Update) → KnownWord X u → Final X u → Final X' u
  final' u k h = rw (A.state _ (known_used u k)) h

  module _ (q : ℕ) (g : Filled X q) where
    f : Filling
    f = X.filling q

    was : RecordHolds X G q (X.filling q)
    was = H.records q g

    node_linked : (j : ℕ) → InList (X.filling q) j → P (node_of (X.filling q) j)
    node_linked j i = A.of_linked _ (was.lists.linked j i)

    par_kept : P (par_of (X.filling q))
    par_kept = rw (← was.lists.first) (node_linked 1 (record { low = omega arith; high = omega (arith, was.lists.two) }))

    old_kept : P (old_child_of (X.filling q))
    old_kept = rw (← was.lists.second) (node_linked 2 (record { low = omega arith; high = was.lists.two }))

    new_kept : P (new_child_of (X.filling q))
    new_kept = A.of_record q _ g was.makes.made was.makes.new_used

    side_same : side_of X' (X.filling q) ≡ side_of X (X.filling q)
    side_same = ap₂ (λ (a b : Fixed). ltb (value a.rank) (value b.rank)) (A.fixed _ new_kept) (A.fixed _ par_kept)

    pub link_same : link_of X' (X.filling q) ≡ link_of X (X.filling q)
    link_same = A.kid _ par_kept _ ∙ ap (λ s. X.kid s (par_of (X.filling q))) side_same

    state_same : X'.state q ≡ X.state q
    state_same = A.state q g.used

    pub word_same : (j : ℕ) → InList (X.filling q) j → X'.update (node_of (X.filling q) j) ≡ X.update (node_of (X.filling q) j)
    word_same j i = A.update _ (H.used _ (was.lists.linked j i))

    held_was : (j : ℕ) → InList (X.filling q) j → Held X' q (X.filling q) j → Held X q (X.filling q) j
    held_was j i h = record { open' = sym link_same ∙ h.open'; word = elim h.word [ inl e ↦ inl (sym (word_same j i) ∙ e) | inr p ↦ inr (ap (λ (w : Update). w.info.0) (sym (word_same j i)) ∙ p.0, rw state_same at p.1) ] }

    kind' : Planted X G q (X.filling q) ⊎ Copied X G q (X.filling q) → Planted X' G' q (X.filling q) ⊎ Copied X' G' q (X.filling q)
    kind' (inl p) =
        let kl : P p.left = A.of_record q _ g p.made.0 p.used.0 in
        let kr : P p.right = A.of_record q _ g p.made.1 p.used.1 in
        inl (record {
          left = p.left;
          right = p.right;
          inner = rw (A.fixed _ new_kept) p.inner;
          kids = λ h. let k = p.kids (rw A.linked at h) in (A.kid _ new_kept true ∙ k.0, A.kid _ new_kept false ∙ k.1);
          leaf_left = rw (A.fixed _ kl) p.leaf_left;
          leaf_right = rw (A.fixed _ kr) p.leaf_right;
          phase-left = rw (A.fixed _ kl) p.phase-left;
          phase_right = rw (A.fixed _ kr) p.phase_right;
          no_prev = (rw (A.fixed _ kl) p.no_prev.0, rw (A.fixed _ kr) p.no_prev.1);
          used = (omega (arith, p.used.0, A.nodes), omega (arith, p.used.1, A.nodes));
          made = (A.maker _ kl ∙ p.made.0, A.maker _ kr ∙ p.made.1);
          fresh = λ h. rw A.linked (p.fresh (rw A.linked at h));
          differ = p.differ;
        })
    kind' (inr c) =
        let four : InList (X.filling q) 4 = record { low = omega arith; high = omega (arith, c.four) } in
        let two : InList (X.filling q) 2 = record { low = omega arith; high = omega (arith, c.four) } in
        inr (record {
          four = c.four;
          side = c.side;
          inner = rw (A.fixed _ old_kept) c.inner;
          sibling = λ h. A.kid _ old_kept c.side ∙ c.sibling (held_was 2 two h);
          copy = λ e h s. A.kid _ new_kept s ∙ c.copy (rw (A.fixed _ (node_linked 4 four)) at e) (held_was 4 four h) s ∙ sym (A.kid _ (node_linked 4 four) s);
          kind = rw (A.fixed _ new_kept, A.fixed _ (node_linked 4 four)) c.kind;
          phase = rw (A.fixed _ (node_linked 4 four)) c.phase;
        })

    pub lost' : Lost X G q (X.filling q) → Lost X' G' q (X.filling q)
    lost' h = record { at = h.at; list = h.list; before = λ i a b. rw A.froze (h.before i a b); not = rw A.froze h.not; gone = rw (A.stamp, word_same h.at h.list) h.gone }

    record' : RecordHolds X' G' q (X.filling q)
    record' = record {
      old_final = λ j i. final' (old_of (X.filling q) j) (was.old-seen j i).known (was.old_final j i);
      old-seen = λ j i. seen' _ _ (was.old-seen j i);
      old_stamp = λ j i. rw A.stamp (was.old_stamp j i);
      frozen = λ v h. omega (arith, was.frozen v (rw A.froze at h), A.nodes);
      in_order = λ v h. rw A.froze (was.in_order v (rw A.froze at h));
      later = λ v h. let z = rw A.froze at h in rw (A.stamp, A.update v (was.frozen v z)) (was.later v z);
      holds = λ v h live. let z = rw A.froze at h in rw (A.update v (was.frozen v z)) (was.holds v z (rw state_same at live));
      tried_state = λ h. rw state_same (was.tried_state (rw A.tried at h));
      trying_tried = λ e. rw A.tried (was.trying_tried (sym state_same ∙ e));
      most = rw state_same was.most;
      commits = λ e. let c = was.commits (sym state_same ∙ e) in (rw A.tried c.0, (λ i l. rw A.froze (c.1 i l)), λ d. c.2 (sym link_same ∙ d));
      aborts = λ e t. lost' (was.aborts (sym state_same ∙ e) (rw A.tried at t));
      lists = let l = was.lists in record { two = l.two; most_listed = l.most_listed; first = l.first; second = l.second; linked = λ j i. rw A.linked (l.linked j i); apart = l.apart; inner = rw (A.fixed _ par_kept) l.inner; old-phase = rw (A.fixed _ old_kept) l.old-phase };
      makes = let m = was.makes in record { new_used = omega (arith, m.new_used, A.nodes); made = A.maker _ new_kept ∙ m.made; prev = rw (A.fixed _ new_kept) m.prev; new-phase = rw (A.fixed _ new_kept) m.new-phase };
      fresh = λ h. rw A.linked (was.fresh (sym link_same ∙ h));
      kind = kind' was.kind;
    }

  pub frame_holds : Holds X' G'
  frame_holds = record {
    records = λ q g. let old = filled_was q g in subst (RecordHolds X' G' q) (sym (A.filling q old.used)) (record' q old);
    unfilled = λ q l e. elim (dec_le (suc q) X.records) [
      | yes k ↦ A.state q k ∙ H.unfilled q k (ap (λ (h : Filling). h.count) (sym (A.filling q k)) ∙ e)
      | no k ↦ (A.new_records q (omega arith) l).1
    ];
    blank = λ q n. rw (A.stamp, A.tried, A.froze) (H.blank q (λ g. n (filled' q g)));
    dummy = (omega (arith, H.dummy.0, A.records), ap (λ (h : Filling). h.count) (A.filling 0 H.dummy.0) ∙ H.dummy.1);
    stamps = λ q. rw (A.stamp, A.next) (H.stamps q);
    words = λ v l. elim (dec_le (suc v) X.nodes) [
      | yes k ↦ let was = H.words v k in rw (A.update v k, A.froze) (known' (X.update v) was.0, was.1)
      | no k ↦ let none = A.new_words v (omega arith) l in (inl none, λ ne. absurd (ne none))
    ];
    used = λ v h. omega (arith, H.used v (rw A.linked at h), A.nodes);
    kids = λ v h e s. let z = rw A.linked at h in let p = A.of_linked v z in rw (A.linked, A.kid v p s) (H.kids v z (rw (A.fixed v p) at e) s);
    prevs = λ v x h e. let z = rw A.linked at h in rw A.linked (H.prevs v x z (rw (A.fixed v (A.of_linked v z)) at e));
  }
