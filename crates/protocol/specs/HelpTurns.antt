-- One turn of HELP: the invariant is kept, the others may count on what they counted on, and the helper knows what its next step needs.
use Rattle.std.specs.Prelude.{ℕ, suc, ◌≤◌, ◌<◌, ◌≡◌, refl, ◌≢◌, ◌⊎◌, Bool, true, false}
use Rattle.std.proofs.Common.{sym, ◌∙◌, inl, inr, true≢false, arith}
use Rattle.std.proofs.Math.Decide.{dec_le}
use Rattle.laws.specs.Changed.{change, change_same}
use Rattle.shapes.specs.declared.HelpStep.{HelpStep}
use Rattle.shapes.specs.declared.HelpStep.TheVariants.{State114, Freeze117, Frozen119, Child123, Commit124, State125, Abort126, State127}
use Rattle.tables.specs.Names.{record_no, update}
use Rattle.tables.specs.Records.{undecided, trying, committed, aborted}
use Rattle.views.specs.View.{View, w_update, w_state, w_kid}
use Rattle.protocol.specs.Ghost.{Ghost, node_of, old_of, par_of, old_child_of, new_child_of, side_of, link_of, InList, Past, Passed, FrozeTo, Lost, Live}
use Rattle.protocol.specs.Invariant.{RecordHolds, Holds}
use Rattle.protocol.specs.Freeze.{g_froze, froze_more, freeze_holds}
use Rattle.protocol.specs.SetState.{g_tried, Sets, state_holds, sets_try, sets-early, sets_commit, sets_abort}
use Rattle.protocol.specs.Rely.{Unseen, Rely, rely_same, not_lost, rely_freeze, rely_state}
use Rattle.protocol.specs.Helper.{Shown, AtPlace, AllFrozen, TriedLost, At, Helps, helps_kept, shown_kept}
use Rattle.protocol.specs.Linking.{LinkedTurn, links, linked_step}
use Rattle.protocol.specs.Trees.{TreeStep}

-- what a turn of worker w gives that leaves X' and knows Q
pub record Gives (w : ℕ) (X X' : View) (G : Ghost) (Q : Ghost → Type 0) : Type 0 where
  pub after : Ghost
  pub holds : Holds X' after
  pub rely : Rely w X X' G after
  pub trees : TreeStep X X' G after
  pub knows : Q after

abbrev pub Helped : ℕ → View → View → Ghost → ℕ → ℕ → HelpStep → Type 0
Helped w X X' G r i b = Gives w X X' G (λ G'. Helps X' G' r i b)

module _ (w : ℕ) (X : View) (G : Ghost) (H : Holds X G) (r : ℕ) (s : Shown X G r) where
  R : RecordHolds X G r (X.filling r)
  R = H.records r s.filled

  seen_by_some : Unseen G r → ⊥
  seen_by_some u = true≢false (sym s.first ∙ u (node_of (X.filling r) 1))

  second_in : InList (X.filling r) 2
  second_in = record { low = omega arith; high = R.lists.two }

  -- a turn that only reads
  pub stays : (i : ℕ) (b : HelpStep) → At X G r i b → Helped w X X G r i b
  stays i b h = record { after = G; holds = H; rely = rely_same w X G; trees = inl (record { fixed = λ n u. refl; kid = λ e n u. refl }); knows = record { shown = s; at = h } }

  -- a turn that sets the state
  sets : (v : ℕ) (t : ℕ → Bool) → Sets X G r v t → (trying ≤ X.state r → trying ≤ v) → (G.tried r ≡ true → t r ≡ true) → (b : HelpStep) → At (w_state X r v) (g_tried G t) r 0 b → Helped w X (w_state X r v) G r 0 b
  sets v t S up more b h =
      let L : Rely w X (w_state X r v) G (g_tried G t) = rely_state w X G H r v t S up more seen_by_some in
      record { after = g_tried G t; holds = state_holds X G H r v t S; rely = L; trees = inl (record { fixed = λ n u. refl; kid = λ e n u. refl }); knows = record { shown = shown_kept w X (w_state X r v) G (g_tried G t) L r s; at = h } }

  -- lines 111 to 113
  pub abort112 : X.state r ≡ undecided → Helped w X (w_state X r aborted) G r 0 State114
  abort112 e = sets aborted G.tried (sets-early X G H r s.filled e) (λ _. omega arith) (λ h. h) State114 (rw (change_same X.state r aborted) (omega arith))

  pub try113 : X.state r ≡ undecided → Helped w X (w_state X r trying) G r 0 State114
  try113 e = sets trying (change G.tried r true) (sets_try X G H r s.filled e) (λ _. omega arith) (λ _. change_same G.tried r true) State114 (rw (change_same X.state r trying) (omega arith))

  pub begun : X.state r ≢ undecided → Helped w X X G r 0 State114
  begun ne = stays 0 State114 (omega arith)

  -- line 114
  pub tries114 : X.state r ≡ trying → Helped w X X G r 2 Freeze117
  tries114 e = stays 2 Freeze117 (record { tried = R.trying_tried e; list = second_in; before = λ i a b. let one : i ≡ 1 = omega arith in rw one s.first })

  pub decided114 : trying ≤ X.state r → X.state r ≢ trying → Helped w X X G r 0 State125
  decided114 h ne = stays 0 State125 (inl (omega arith))

  -- line 117
  module _ (i : ℕ) (a : AtPlace X G r i) where
    -- a node that still has its old word is not frozen
    pub freeze117 : (m : ℕ) → X.update (node_of (X.filling r) i) ≡ old_of (X.filling r) i → Helped w X (w_update X (node_of (X.filling r) i) (update m (record_no r))) G r i Frozen119
    freeze117 m hit =
        record {
          after = g_froze G r (node_of (X.filling r) i);
          holds = freeze_holds X G H r i m s.filled a.list live hit (inr s.first);
          rely = L;
          trees = inl (record { fixed = λ n u. refl; kid = λ e n u. refl });
          knows = record {
            shown = shown_kept w X X' G (g_froze G r (node_of (X.filling r) i)) L r s;
            at = (record { tried = a.tried; list = a.list; before = λ j x y. froze_more G r (node_of (X.filling r) i) r _ (a.before j x y) }, inl now);
          };
        }
      where
        X' : View
        X' = w_update X (node_of (X.filling r) i) (update m (record_no r))

        alive : Lost X G r (X.filling r) → ⊥
        alive = not_lost X G r i R a.list a.before hit

        not_frozen : G.froze r (node_of (X.filling r) i) ≡ true → ⊥
        not_frozen f =
            let low : G.stamp r ≤ G.stamp (X.update (node_of (X.filling r) i)).info.0 = R.later _ f in
            let high : G.stamp (old_of (X.filling r) i).info.0 < G.stamp r = R.old_stamp i a.list in
            let z : G.stamp r ≤ G.stamp (old_of (X.filling r) i).info.0 = rw hit at low in
            omega (arith, high, z)

        live : Live X r
        live =
            let one : trying ≤ X.state r = R.tried_state a.tried in
            let not-committed : X.state r ≢ committed = λ e. not_frozen ((R.commits e).1 i a.list) in
            let not-aborted : X.state r ≢ aborted = λ e. alive (R.aborts e a.tried) in
            omega (arith, R.most)

        L : Rely w X (w_update X (node_of (X.filling r) i) (update m (record_no r))) G (g_froze G r (node_of (X.filling r) i))
        L = rely_freeze w X G H r i m s.filled a.list live hit (inr s.first) alive (λ u. absurd (seen_by_some u))

        now : (g_froze G r (node_of (X.filling r) i)).froze r (node_of (X.filling r) i) ≡ true
        now = rw (change_same G.froze r (change (G.froze r) (node_of (X.filling r) i) true)) (change_same (G.froze r) (node_of (X.filling r) i) true)

    pub missed117 : X.update (node_of (X.filling r) i) ≢ old_of (X.filling r) i → Helped w X X G r i Frozen119
    missed117 ne = stays i Frozen119 (a, inr (gone (R.old-seen i a.list).since))
      where
        gone : (X.update (node_of (X.filling r) i) ≡ old_of (X.filling r) i) ⊎ Passed X G (X.filling r) i → Passed X G (X.filling r) i
        gone (inl e) = absurd (ne e)
        gone (inr p) = p

    -- line 119
    mine : (X.update (node_of (X.filling r) i)).info.0 ≡ r → G.froze r (node_of (X.filling r) i) ≡ true
    mine e =
        let used : node_of (X.filling r) i < X.nodes = H.used _ (R.lists.linked i a.list) in
        let not_dummy : (X.update (node_of (X.filling r) i)).info.0 ≢ 0 = λ z. let zero-r : r ≡ 0 = sym e ∙ z in (let none : (X.filling r).count ≡ 0 = rw zero-r H.dummy.1 in omega (arith, s.filled.some)) in
        rw e at ((H.words _ used).1 not_dummy)

    to_next : (X.update (node_of (X.filling r) i)).info.0 ≡ r → FrozeTo G r (X.filling r) (suc i)
    to_next e j x y = elim (dec_le (suc j) i) [ yes l ↦ a.before j x l | no l ↦ (let same : j ≡ i = omega arith in rw same (mine e)) ]

    pub next119 : (X.update (node_of (X.filling r) i)).info.0 ≡ r → i < (X.filling r).count → Helped w X X G r (suc i) Freeze117
    next119 e l = stays (suc i) Freeze117 (record { tried = a.tried; list = record { low = omega arith; high = l }; before = to_next e })

    pub last119 : (X.update (node_of (X.filling r) i)).info.0 ≡ r → (i < (X.filling r).count → ⊥) → Helped w X X G r 0 Child123
    last119 e n = stays 0 Child123 (record { tried = a.tried; all = λ j l. to_next e j l.low (let h = l.high in omega arith) })

    pub lost119 : (G.froze r (node_of (X.filling r) i) ≡ true) ⊎ Passed X G (X.filling r) i → (X.update (node_of (X.filling r) i)).info.0 ≢ r → Helped w X X G r 0 State125
    lost119 h ne = stays 0 State125 (by (G.froze r (node_of (X.filling r) i)) refl h)
      where
        -- frozen once and no longer: the record is final
        final : G.froze r (node_of (X.filling r) i) ≡ true → committed ≤ X.state r
        final f = elim (dec_le committed (X.state r)) [ yes l ↦ l | no l ↦ absurd (ne (R.holds _ f (omega arith))) ]

        by : (b : Bool) → G.froze r (node_of (X.filling r) i) ≡ b → (G.froze r (node_of (X.filling r) i) ≡ true) ⊎ Passed X G (X.filling r) i → At X G r 0 State125
        by true e _ = inl (final e)
        by false e (inl f) = absurd (true≢false (sym f ∙ e))
        by false e (inr p) = inr (record { tried = a.tried; lost = record { at = i; list = a.list; before = a.before; not = e; gone = p } })

  -- line 123
  pub child123 : AllFrozen X G r → link_of X (X.filling r) ≡ old_child_of (X.filling r) → Helped w X (w_kid X (side_of X (X.filling r)) (par_of (X.filling r)) (new_child_of (X.filling r))) G r 0 Commit124
  child123 a hit =
      let t : LinkedTurn w X G H r s.filled a.tried a.all hit = linked_step w X G H r s.filled a.tried a.all hit in
      let k : Helps X' t.after r 0 Child123 = helps_kept w X X' G t.after t.rely r 0 Child123 (record { shown = s; at = a }) in
      record { after = t.after; holds = t.holds; rely = t.rely; trees = inr (links w X G H r s.filled a.tried a.all hit t.after); knows = record { shown = k.shown; at = (k.at, t.past) } }
    where
      X' : View
      X' = w_kid X (side_of X (X.filling r)) (par_of (X.filling r)) (new_child_of (X.filling r))

  pub missed123 : AllFrozen X G r → Past X (X.filling r) → Helped w X X G r 0 Commit124
  missed123 a ne = stays 0 Commit124 (a, ne)

  -- line 124
  pub commit124 : AllFrozen X G r × Past X (X.filling r) → Helped w X (w_state X r committed) G r 0 State127
  commit124 h = sets committed G.tried (sets_commit X G H r s.filled h.0.tried h.0.all h.1) (λ _. omega arith) (λ k. k) State127 (rw (change_same X.state r committed) (omega arith))

  -- lines 125 and 126
  pub tries125 : At X G r 0 State125 → X.state r ≡ trying → Helped w X X G r 0 Abort126
  tries125 (inl h) e = absurd (omega arith)
  tries125 (inr h) e = stays 0 Abort126 h

  pub decided125 : At X G r 0 State125 → X.state r ≢ trying → Helped w X X G r 0 State127
  decided125 (inl h) ne = stays 0 State127 h
  decided125 (inr h) ne = stays 0 State127 (let one : trying ≤ X.state r = R.tried_state h.tried in omega arith)

  pub abort126 : TriedLost X G r → Helped w X (w_state X r aborted) G r 0 State127
  abort126 h = sets aborted G.tried (sets_abort X G H r s.filled h.lost) (λ _. omega arith) (λ k. k) State127 (rw (change_same X.state r aborted) (omega arith))
