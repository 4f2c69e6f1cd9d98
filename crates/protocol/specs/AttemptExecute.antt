-- EXECUTE: the frozen tests (lines 96 to 99), filling the record (line 102), and the CAS of its first node (line 103).
use Rattle.std.specs.Prelude.{ℕ, ◌+◌, ◌≤◌, ◌<◌, ◌≡◌, Some}
use Rattle.std.proofs.Common.{sym, ◌∙◌}
use Rattle.std.proofs.Math.Path.{subst}
use Rattle.std.proofs.Math.Bool.{true}
use native.Mathlib.Omega.{arith}
use Rattle.std.proofs.Math.Dec.{ltb}
use borrow.Author.Tests.{ltb-true, ltb-false, eq-eqb, ne_eqb}
use Rattle.laws.specs.Choice.{pick_true, pick_false, fork}
use Rattle.shapes.specs.declared.NodeNo.{NodeNo}
use Rattle.shapes.specs.declared.Key.{Key}
use Rattle.shapes.specs.declared.Locals.{Locals}
use Rattle.shapes.specs.declared.Update.{Update}
use Rattle.shapes.specs.declared.Entry.{Entry}
use Rattle.shapes.specs.declared.Filling.{Filling}
use Rattle.shapes.specs.declared.Kind.{Kind}
use Rattle.shapes.specs.declared.Kind.TheVariants as kind
use Rattle.shapes.specs.declared.HelpStep.TheVariants.{Counter111}
use Rattle.shapes.specs.declared.Back.TheVariants as back
use Rattle.shapes.specs.declared.Effect.TheVariants as effect
use Rattle.shapes.specs.declared.Place.TheVariants as place
use Rattle.tables.specs.Names.{flag, update, same_update}
use Rattle.tables.specs.Nodes.{update_at}
use Rattle.tables.specs.Records.{undecided, committed, state_at, entry_at, in_progress}
use Rattle.tables.specs.Versions.{as_parent}
use Rattle.tables.specs.World.{Tables}
use Rattle.sound.specs.Homes.{listed}
use Rattle.sound.specs.Meaning.{TablesSound, entry_of}
use Rattle.sound.specs.Agree.{entry_of_lem}
use Rattle.steps.specs.Apply.{apply}
use Rattle.steps.specs.Hand.{holding, with_i, does}
use Rattle.steps.specs.Execute.{old_update, insert_filling, delete_filling, fill_insert, fill_delete, fills, frozen97, state98, freeze103}
use Rattle.views.specs.View.{View, view}
use Rattle.views.specs.Effects.{view-new_record, view-set_update}
use Rattle.protocol.specs.Ghost.{Ghost, node_of, Seen, Final}
use Rattle.protocol.specs.Invariant.{Holds}
use Rattle.protocol.specs.Fill.{Fills}
use Rattle.protocol.specs.Frozen.{unfrozen_final}
use Rattle.protocol.specs.OwnRecord.{Own, fill102}
use Rattle.protocol.specs.OwnRecord as own
use Rattle.protocol.specs.Inserting.{insert-fills}
use Rattle.protocol.specs.Deleting.{delete-fills}
use Rattle.protocol.specs.Helper.{Helps}
use Rattle.protocol.specs.HelpTurns.{Gives}
use Rattle.protocol.specs.HelpMoves.{same_words}
use Rattle.protocol.specs.AttemptPlaces.{Under, InsertTests, DeleteTests, Tests}
use Rattle.protocol.specs.AttemptKept.{under_map}
use Rattle.protocol.specs.AttemptHands.{inserting_words, read_words}
use Rattle.protocol.specs.AttemptTurns.{Decides, does_knows, goes_knows, retries_knows, helps_knows, with-node, by_test, parent_is}
use Rattle.protocol.specs.AttemptSearch.{same_node_lem}

-- ---- the words tested

last_insert : (v : Locals) → 2 ≤ v.i → old_update kind.Insert v v.i ≡ v.lup
unfolding old_update
last_insert v l = pick_false _ _ _ (ne_eqb v.i 1 (λ e. omega arith))

last_delete : (v : Locals) → 4 ≤ v.i → old_update kind.Delete v v.i ≡ v.sup
unfolding old_update
last_delete v l = pick_false _ _ _ (ne_eqb v.i 1 (λ e. omega arith)) ∙ pick_false _ _ _ (ne_eqb v.i 2 (λ e. omega arith)) ∙ pick_false _ _ _ (ne_eqb v.i 3 (λ e. omega arith))

third_delete : (v : Locals) → v.i ≡ 3 → old_update kind.Delete v v.i ≡ v.lup
unfolding old_update
third_delete v is = pick_false _ _ _ (ne_eqb v.i 1 (λ e. omega arith)) ∙ pick_false _ _ _ (ne_eqb v.i 2 (λ e. omega arith)) ∙ pick_true _ _ _ (eq-eqb v.i 3 is)

-- each of them was read from some node
abbrev Read : View → Ghost → Update → Type 0
Read X G u = (x : ℕ) × Seen X G x u

old_read : (w : ℕ) (X : View) (G : Ghost) (o : Kind) (v : Locals) → Tests w X G o v → Read X G (old_update o v v.i)
unfolding old_update
old_read w X G kind.Insert v h = fork (Read X G) _ (λ _. (v.p.0, h.inserting.pup.seen)) (λ _. (v.l.0, h.lup))
old_read w X G kind.Delete v h =
    let d = h.knows.read.deleting in
    fork (Read X G) _ (λ _. (h.grand.0, d.gpup.seen)) (λ _.
    fork (Read X G) _ (λ _. (v.p.0, d.pup.seen)) (λ _.
    fork (Read X G) _ (λ _. (v.l.0, h.knows.lup)) (λ _. (v.sibling.0, h.knows.read.siblings.seen))))
old_read w X G kind.Find v h = absurd h

module _ (w : ℕ) (s : Tables) (h : TablesSound s) (G : Ghost) (H : Holds (view s) G) (k : Key) where
  -- lines 98 and 99
  pub state_decides : (o : Kind) (v : Locals) → Tests w (view s) G o v → Decides w s G o k (state98 s.records o v)
  unfolding state98 in_progress view
  state_decides o v a = by_test w s G H o k _ _ _
      (λ e. let l : state_at s.records (old_update o v v.i).info < committed = ltb-true _ _ e in
      let at = old_read w (view s) G o v a in
      helps_knows w s G H o k at.0 (old_update o v v.i) at.1 (omega arith))
      (λ _. retries_knows w s G H o k)

  -- line 102
  filled : (v : Locals) (f : Filling) → Fills (view s) G v.info.0 f → G.owner v.info.0 ≡ w → Gives w (view s) (view (apply (effect.Fill v.info f) s)) G (λ G'. Own w (view (apply (effect.Fill v.info f) s)) G' v.info.0)
  unfolding apply
  filled v f F mine = subst (λ X. Gives w (view s) X G (λ G'. Own w X G' v.info.0))
      (sym (view-new_record s.totals s.nodes s.records s.totals.m h.record_rows v.info undecided f (unfold view in let a : v.info.0 < s.totals.records = F.used in let b = h.used.most_records in omega arith)))
      (fill102 w (view s) G H v.info.0 f F mine)

  insert-filled : (v : Locals) → InsertTests w (view s) G v → Final (view s) v.lup → Decides w s G kind.Insert k (fill_insert s.nodes v)
  unfolding fill_insert
  insert-filled v a f = with-node w s G H kind.Insert k _ _ (λ _ _. does_knows w s G H kind.Insert k (effect.Fill v.info (insert_filling v)) (holding v.info) place.Freeze103
      (filled v (insert_filling v) (insert-fills w (view s) G H v a.inserting (record { seen = a.lup; final = f })) a.inserting.taken.mine))

  delete-filled : (v : Locals) (u : Under v.gp (DeleteTests w (view s) G v)) → Final (view s) v.lup → Final (view s) v.sup → Decides w s G kind.Delete k (fill_delete s.nodes v)
  unfolding fill_delete
  delete-filled v u f e = with-node w s G H kind.Delete k _ _ (λ g is. with-node w s G H kind.Delete k _ _ (λ _ _. by_test w s G H kind.Delete k _ _ _ (λ _. by g is) (λ _. tt)))
    where
      by : (g : NodeNo) → as_parent s.nodes v.gp ≡ Some g → Decides w s G kind.Delete k (does (effect.Fill v.info (delete_filling v g)) (holding v.info) place.Freeze103)
      by g is =
          let same : u.grand ≡ g = same_node_lem (sym u.is ∙ (parent_is s v.gp g is).0) in
          let a : DeleteTests w (view s) G v g = subst (DeleteTests w (view s) G v) same u.knows in
          does_knows w s G H kind.Delete k (effect.Fill v.info (delete_filling v g)) (holding v.info) place.Freeze103
          (filled v (delete_filling v g) (delete-fills w (view s) G H v g a.read.deleting (record { seen = a.lup; final = f }) a.read.siblings e) a.read.deleting.taken.mine)

  -- lines 96 and 97
  insert-tests : (v : Locals) → InsertTests w (view s) G v → Decides w s G kind.Insert k (frozen97 s.nodes s.records kind.Insert v)
  unfolding frozen97 fills listed
  insert-tests v a = by_test w s G H kind.Insert k _ _ _ (λ _. goes_knows w s G H kind.Insert k v place.State98 a)
      (λ t. by_test w s G H kind.Insert k _ _ _
      (λ _. goes_knows w s G H kind.Insert k (with_i v (v.i + 1)) place.Frozen97 (record { inserting = inserting_words w (view s) G v v.lup v.up (v.i + 1) a.inserting; lup = a.lup }))
      (λ m. by_test w s G H kind.Insert k _ _ _ (λ _. insert-filled v a (subst (Final (view s)) (last_insert v (ltb-false _ _ m)) (unfrozen_final s _ t))) (λ _. tt)))

  next_tested : (v : Locals) (g : NodeNo) → DeleteTests w (view s) G v g → (4 ≤ v.i + 1 → Final (view s) v.lup) → DeleteTests w (view s) G (with_i v (v.i + 1)) g
  next_tested v g a f = record { read = read_words w (view s) G v v.lup v.up (v.i + 1) g a.read; lup = a.lup; tested = f }

  delete-tests : (v : Locals) → Under v.gp (DeleteTests w (view s) G v) → Decides w s G kind.Delete k (frozen97 s.nodes s.records kind.Delete v)
  unfolding frozen97 fills listed
  delete-tests v u = by_test w s G H kind.Delete k _ _ _ (λ _. goes_knows w s G H kind.Delete k v place.State98 u)
      (λ t. by_test w s G H kind.Delete k _ _ _
      (λ m. goes_knows w s G H kind.Delete k (with_i v (v.i + 1)) place.Frozen97 (under_map (λ g a. next_tested v g a (λ l. subst (Final (view s)) (third_delete v (third m l)) (unfrozen_final s _ t))) u))
      (λ m. by_test w s G H kind.Delete k _ _ _ (λ _. delete-filled v u (u.knows.tested (ltb-false _ _ m)) (subst (Final (view s)) (last_delete v (ltb-false _ _ m)) (unfrozen_final s _ t))) (λ _. tt)))
    where
      third : ltb v.i 4 ≡ true → 4 ≤ v.i + 1 → v.i ≡ 3
      third m l = let b : v.i < 4 = ltb-true _ _ m in omega arith

  pub tests-decide : (o : Kind) (v : Locals) → Tests w (view s) G o v → Decides w s G o k (frozen97 s.nodes s.records o v)
  tests-decide kind.Insert v a = insert-tests v a
  tests-decide kind.Delete v a = delete-tests v a
  tests-decide kind.Find v a = absurd a

  -- line 103
  module _ (o : Kind) (v : Locals) (a : Own w (view s) G v.info.0) where
    abbrev first : Entry
    first = entry_of ((view s).filling v.info.0) 1

    first_is : entry_at s.records v.info 1 ≡ entry_of ((view s).filling v.info.0) 1
    unfolding view
    first_is = entry_of_lem s.records v.info 0 (omega arith)

    row103 : node_of ((view s).filling v.info.0) 1 < s.totals.n
    unfolding view
    row103 =
        let R = H.records v.info.0 a.filled in
        let l : node_of ((view s).filling v.info.0) 1 < s.totals.nodes = H.used _ (R.lists.linked 1 (record { low = omega arith; high = let t = R.lists.two in omega arith })) in
        let m = h.used.most_nodes in
        omega arith

    hits103 : same_update (update_at s.nodes first.node) first.old ≡ true → Decides w s G o k (does (effect.Freeze first.node (update flag v.info)) (holding v.info) (place.Help Counter111 back.Own))
    unfolding apply view
    hits103 t = subst (λ X. Gives w (view s) X G (λ G'. Helps X G' v.info.0 0 Counter111)) (sym (view-set_update s.totals s.nodes s.records s.totals.n h.node-rows first.node (update flag v.info) row103))
        (own.freeze103 w (view s) G H v.info.0 a flag (same_words _ _ t))

    pub freeze_decides : Decides w s G o k (freeze103 s.nodes s.records v)
    unfolding freeze103
    freeze_decides = rw first_is (by_test w s G H o k _ _ _ (λ _. by_test w s G H o k _ _ _ hits103 (λ _. retries_knows w s G H o k)) (λ _. tt))
