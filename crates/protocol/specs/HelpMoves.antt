-- HELP's step on sound tables is one of the turns of HelpTurns: never crooked, and its next step knows what it needs.
use Prim.Native.Nat.{ℕ, zero, suc, ◌+◌, ◌≤◌, ◌<◌}
use Rattle.std.specs.Prelude.{◌≡◌, refl, ◌≢◌, ◌⊎◌, Bool, true, ltb, Option, None, Some}
use Rattle.std.proofs.Common.{sym, ◌∙◌}
use Rattle.std.proofs.Math.Path.{subst}
use Rattle.std.proofs.Math.Bool.{false, true≢false}
use native.Mathlib.Omega.{arith}
use Rattle.std.proofs.Math.Dec.{eqb}
use borrow.Author.Tests.{ltb-true, ltb-false, eqb-true, eqb-false, eq-eqb, ne_eqb}
use Rattle.laws.specs.Choice.{pick, fork}
use Rattle.laws.specs.Tests.{says_and, says_itself}
use Rattle.shapes.specs.declared.Update.{Update}
use Rattle.shapes.specs.declared.Entry.{Entry}
use Rattle.shapes.specs.declared.HelpStep.{HelpStep}
use Rattle.shapes.specs.declared.HelpStep.TheVariants.{Counter111, Abort112, Try113, State114, Freeze117, Frozen119, Child123, Commit124, State125, Abort126, State127}
use Rattle.shapes.specs.declared.HelpMove.{HelpMove}
use Rattle.shapes.specs.declared.HelpMove.TheVariants as help
use Rattle.shapes.specs.declared.Effect.TheVariants as effect
use Rattle.tables.specs.Names.{node, record_no, update, same_node, same_record, same_update}
use Rattle.tables.specs.Nodes.{key_at, child_at, update_at}
use Rattle.tables.specs.NodeWrites.{fixed_at}
use Rattle.tables.specs.Records.{undecided, trying, committed, aborted, count_at, state_at, par_at, old_child_at, new_child_at, entry_at, helpable}
use Rattle.tables.specs.RecordWrites.{filling_at}
use Rattle.tables.specs.World.{Tables}
use Rattle.sound.specs.Meaning.{TablesSound, entry_of}
use Rattle.sound.specs.Agree.{entry_of_lem}
use Rattle.steps.specs.Apply.{apply}
use Rattle.steps.specs.Help.{counter111, state_cas, state114, freeze_cas, frozen119, cas_child, state125, help_step, help_of}
use Rattle.views.specs.View.{view, w_state}
use Rattle.views.specs.Effects.{view-set_update, view-set_child, view-set_state}
use Rattle.protocol.specs.Ghost.{Ghost, node_of, par_of, Passed}
use Rattle.protocol.specs.Invariant.{RecordHolds, Holds}
use Rattle.protocol.specs.Helper.{Shown, AtPlace, At}
use Rattle.protocol.specs.HelpTurns.{Helped, stays, abort112, try113, begun, tries114, decided114, freeze117, missed117, next119, last119, lost119, child123, missed123, commit124, tries125, decided125, abort126}

-- words that are told to be the same are the same
pub same_words : (u v : Update) → same_update u v ≡ true → u ≡ v
unfolding same_update same_record
same_words u v e =
    let both = (says_and (says_itself (eqb u.mark v.mark)) (says_itself (eqb u.info.0 v.info.0))).out e in
    let m : u.mark ≡ v.mark = eqb-true _ _ both.0 in
    let n : u.info.0 ≡ v.info.0 = eqb-true _ _ both.1 in
    λ i. record { mark = m i; info = record { 0 = n i } }

pub other_words : (u v : Update) → same_update u v ≡ false → u ≢ v
unfolding same_update same_record
other_words u v e d =
    let same : same_update v v ≡ true = rw (eq-eqb v.mark _ refl, eq-eqb v.info.0 _ refl) refl in
    true≢false (sym same ∙ (rw d at e))

module _ (w : ℕ) (s : Tables) (h : TablesSound s) (G : Ghost) (H : Holds (view s) G) (r : ℕ) (sh : Shown (view s) G r) where
  abbrev pub Moved : Option HelpMove → Type 0
  Moved None = ⊥
  Moved (Some (help.Goes e i b)) = Helped w (view s) (view (apply e s)) G r i b
  Moved (Some (help.Done done)) = Unit {0}

  R : RecordHolds (view s) G r ((view s).filling r)
  R = H.records r sh.filled

  -- the rows that a step may write are there
  record_row_lem : r < s.totals.m
  unfolding view
  record_row_lem = let l : r < s.totals.records = sh.filled.used in let m = h.used.most_records in omega arith

  node_row : (n : ℕ) → G.linked n ≡ true → n < s.totals.n
  unfolding view
  node_row n l = let a : n < s.totals.nodes = H.used n l in let m = h.used.most_nodes in omega arith

  by_state : (v : ℕ) (b : HelpStep) → Helped w (view s) (w_state (view s) r v) G r 0 b → Moved (Some (help.Goes (effect.SetState (record_no r) v) 0 b))
  unfolding apply
  by_state v b g = subst (λ X. Helped w (view s) X G r 0 b) (sym (view-set_state s.totals s.nodes s.records s.totals.m h.record_rows (record_no r) v record_row_lem)) g

  reads : (i : ℕ) (b : HelpStep) → Helped w (view s) (view s) G r i b → Moved (Some (help.Goes effect.Nothing i b))
  unfolding apply
  reads i b g = g

  -- lines 111 to 114
  counter_moves : Moved (counter111 s.totals s.records (record_no r))
  unfolding counter111
  counter_moves = fork Moved _ (λ _. reads 0 Try113 (stays w (view s) G H r sh 0 Try113 tt)) (λ _. reads 0 Abort112 (stays w (view s) G H r sh 0 Abort112 tt))

  state_moves : (v : ℕ) → ((view s).state r ≡ undecided → Helped w (view s) (w_state (view s) r v) G r 0 State114) → Moved (Some (help.Goes (state_cas s.records (record_no r) v) 0 State114))
  unfolding state_cas view
  state_moves v set = fork (λ e. Moved (Some (help.Goes e 0 State114))) (eqb (state_at s.records (record_no r)) undecided)
      (λ e. by_state v State114 (set (eqb-true _ _ e)))
      (λ e. reads 0 State114 (begun w (view s) G H r sh (eqb-false _ _ e)))

  moves114 : trying ≤ (view s).state r → Moved (state114 s.records (record_no r))
  unfolding state114 view
  moves114 l = fork Moved (eqb (state_at s.records (record_no r)) trying)
      (λ e. reads 2 Freeze117 (tries114 w (view s) G H r sh (eqb-true _ _ e)))
      (λ e. reads 0 State125 (decided114 w (view s) G H r sh l (eqb-false _ _ e)))

  -- lines 117 and 119
  abbrev Frozen : ℕ → Type 0
  Frozen i = (G.froze r (node_of ((view s).filling r) i) ≡ true) ⊎ Passed (view s) G ((view s).filling r) i

  module _ (i : ℕ) (a : AtPlace (view s) G r i) where
    entry_is : entry_at s.records (record_no r) i ≡ entry_of ((view s).filling r) i
    unfolding view
    entry_is = by i a.list.low (let b = a.list.high in let c = R.lists.most_listed in omega arith)
      where
        by : (j : ℕ) → 1 ≤ j → j ≤ 4 → entry_at s.records (record_no r) j ≡ entry_of (filling_at s.records (record_no r)) j
        by zero x y = absurd (omega arith)
        by (suc j) x y = entry_of_lem s.records (record_no r) j (omega arith)

    abbrev entry : Entry
    entry = entry_of ((view s).filling r) i

    row117 : node_of ((view s).filling r) i < s.totals.n
    row117 = node_row _ (R.lists.linked i a.list)

    hits117 : same_update (update_at s.nodes entry.node) entry.old ≡ true → Moved (Some (help.Goes (effect.Freeze entry.node (update entry.mark (record_no r))) i Frozen119))
    unfolding apply view
    hits117 t = subst (λ X. Helped w (view s) X G r i Frozen119) (sym (view-set_update s.totals s.nodes s.records s.totals.n h.node-rows entry.node (update entry.mark (record_no r)) row117))
        (freeze117 w (view s) G H r sh i a entry.mark (same_words _ _ t))

    misses117 : same_update (update_at s.nodes entry.node) entry.old ≡ false → Moved (Some (help.Goes effect.Nothing i Frozen119))
    unfolding view
    misses117 t = reads i Frozen119 (missed117 w (view s) G H r sh i a (other_words _ _ t))

    moves117 : Moved (Some (help.Goes (freeze_cas s.nodes s.records (record_no r) i) i Frozen119))
    unfolding freeze_cas
    moves117 = rw entry_is (fork (λ e. Moved (Some (help.Goes e i Frozen119))) _ hits117 misses117)

    here119 : eqb (update_at s.nodes entry.node).info.0 r ≡ true → Moved (pick (ltb i (count_at s.records (record_no r))) (Some (help.Goes effect.Nothing (i + 1) Freeze117)) (Some (help.Goes effect.Nothing 0 Child123)))
    unfolding view filling_at
    here119 t = fork Moved (ltb i (count_at s.records (record_no r)))
        (λ l. let one : i + 1 ≡ suc i = omega arith in rw one (reads (suc i) Freeze117 (next119 w (view s) G H r sh i a (eqb-true _ _ t) (ltb-true _ _ l))))
        (λ l. reads 0 Child123 (last119 w (view s) G H r sh i a (eqb-true _ _ t) (λ m. let a : i < count_at s.records (record_no r) = m in let b : count_at s.records (record_no r) ≤ i = ltb-false _ _ l in omega arith)))

    gone119 : Frozen i → eqb (update_at s.nodes entry.node).info.0 r ≡ false → Moved (Some (help.Goes effect.Nothing 0 State125))
    unfolding view
    gone119 k t = reads 0 State125 (lost119 w (view s) G H r sh i a k (eqb-false _ _ t))

    moves119 : Frozen i → Moved (frozen119 s.nodes s.records (record_no r) i)
    unfolding frozen119 same_record
    moves119 k = rw entry_is (fork Moved _ here119 (gone119 k))

  -- lines 123 to 126
  row123 : par_of ((view s).filling r) < s.totals.n
  row123 = node_row _ (rw (← R.lists.first) (R.lists.linked 1 (record { low = omega arith; high = let t = R.lists.two in omega arith })))

  abbrev left : Bool
  left = ltb (key_at s.nodes (new_child_at s.records (record_no r))) (key_at s.nodes (par_at s.records (record_no r)))

  hits123 : At (view s) G r 0 Child123 → eqb (child_at s.nodes (par_at s.records (record_no r)) left).0 (old_child_at s.records (record_no r)).0 ≡ true → Moved (Some (help.Goes (effect.Link (par_at s.records (record_no r)) left (new_child_at s.records (record_no r))) 0 Commit124))
  unfolding apply view filling_at key_at fixed_at
  hits123 a t = subst (λ X. Helped w (view s) X G r 0 Commit124) (sym (view-set_child s.totals s.nodes s.records s.totals.n h.node-rows (par_at s.records (record_no r)) left (new_child_at s.records (record_no r)) row123))
      (child123 w (view s) G H r sh a (eqb-true _ _ t))

  misses123 : At (view s) G r 0 Child123 → eqb (child_at s.nodes (par_at s.records (record_no r)) left).0 (old_child_at s.records (record_no r)).0 ≡ false → Moved (Some (help.Goes effect.Nothing 0 Commit124))
  unfolding view filling_at key_at fixed_at
  misses123 a t = reads 0 Commit124 (missed123 w (view s) G H r sh a (eqb-false _ _ t))

  moves123 : At (view s) G r 0 Child123 → Moved (Some (help.Goes (cas_child s.nodes (par_at s.records (record_no r)) (old_child_at s.records (record_no r)) (new_child_at s.records (record_no r))) 0 Commit124))
  unfolding cas_child same_node
  moves123 a = fork (λ e. Moved (Some (help.Goes e 0 Commit124))) _ (hits123 a) (misses123 a)

  moves125 : At (view s) G r 0 State125 → Moved (state125 s.records (record_no r))
  unfolding state125 view
  moves125 a = fork Moved (eqb (state_at s.records (record_no r)) trying)
      (λ e. reads 0 Abort126 (tries125 w (view s) G H r sh a (eqb-true _ _ e)))
      (λ e. reads 0 State127 (decided125 w (view s) G H r sh a (eqb-false _ _ e)))

  pub step_moves : (i : ℕ) (b : HelpStep) → At (view s) G r i b → Moved (help_step s (record_no r) i b)
  unfolding help_step
  step_moves i Counter111 a = counter_moves
  step_moves i Abort112 a = state_moves aborted (abort112 w (view s) G H r sh)
  step_moves i Try113 a = state_moves trying (try113 w (view s) G H r sh)
  step_moves i State114 a = moves114 a
  step_moves i Freeze117 a = moves117 i a
  step_moves i Frozen119 a = moves119 i a.0 a.1
  step_moves i Child123 a = moves123 a
  step_moves i Commit124 a = by_state committed State127 (commit124 w (view s) G H r sh a)
  step_moves i State125 a = moves125 a
  step_moves i Abort126 a = by_state aborted State127 (abort126 w (view s) G H r sh a)
  step_moves i State127 a = tt

  -- a record that has been seen is filled: helping it is not crooked
  may_help : helpable s.records (record_no r) ≡ false → ⊥
  unfolding helpable view filling_at
  may_help e =
      let c : 0 < count_at s.records (record_no r) = sh.filled.some in
      let some : eqb (count_at s.records (record_no r)) 0 ≡ false = ne_eqb (count_at s.records (record_no r)) 0 (λ z. let none : count_at s.records (record_no r) ≡ 0 = z in omega arith) in
      let other : eqb r 0 ≡ false = ne_eqb r 0 (λ z. let none : count_at s.records (record_no r) ≡ 0 = rw z H.dummy.1 in omega arith) in
      true≢false (rw (some, other) at e)

  pub help_moves : (i : ℕ) (b : HelpStep) → At (view s) G r i b → Moved (help_of s (record_no r) i b)
  unfolding help_of
  help_moves i b a = fork Moved (helpable s.records (record_no r)) (λ _. step_moves i b a) (λ e. absurd (may_help e))
