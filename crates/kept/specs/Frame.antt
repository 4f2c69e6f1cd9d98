-- What a turn leaves alone, from any sound tables.
use Rattle.std.specs.Prelude.{ℕ, ◌-◌, ◌<◌, ◌≡◌, ◌≢◌, ℤ, ltb, Option, None, Some}
use Rattle.std.proofs.Math.Path.{refl}
use Rattle.std.proofs.Common.{ap, subst, arith, ltb-true}
use Rattle.std.proofs.Math.ListN.{get_or}
use Rattle.std.proofs.Math.Seq.{get_or-set_other}
use Rattle.laws.specs.Choice.{fork}
use Rattle.shapes.specs.declared.RecordNo.{RecordNo}
use Rattle.shapes.specs.declared.Operation.{Operation}
use Rattle.shapes.specs.declared.PendingChange.{PendingChange}
use Rattle.shapes.specs.declared.PendingChange.TheVariants as pending
use Rattle.shapes.specs.declared.Effect.{Effect}
use Rattle.shapes.specs.declared.Effect.TheVariants as effect
use Rattle.shapes.specs.declared.Step.{Step}
use Rattle.shapes.specs.Outcomes.{Decision}
use Rattle.shapes.specs.declared.Key.{Key}
use Rattle.tables.specs.Names.{record_no}
use Rattle.tables.specs.Records.{count_at, undecided, aborted, unfilled}
use Rattle.tables.specs.RecordWrites.{filling_at, filling_set_state, filling_new_record_record}
use Rattle.tables.specs.World.{Tables, World, totals_of, tables_of, idle, worker_at, spot}
use Rattle.tables.specs.Fresh.{Left}
use Rattle.sound.specs.Sound.{sound_of}
use Rattle.sound.specs.Meaning.{ConditionSound, Sound}
use Rattle.steps.specs.Apply.{apply, taken_record}
use Rattle.steps.specs.Turn.{pushed, added, settled, settle, lists_of, step_on, step_of, turn_of}
use Rattle.kept.specs.Later.{KeepsFixed, Later, grows_same}
use Rattle.kept.specs.Fits.{Fits}
use Rattle.kept.specs.Effects.{effect_keeps}
use Rattle.kept.specs.Good.{PendingFits, FoundFits, GoodStep, Good}
use Rattle.kept.specs.Spots.{spot_other}
use Rattle.kept.specs.Settled.{home_of, listed_by, decide_good}
use Rattle.kept.specs.Kept.{top_used}
use Rattle.kept.specs.Touched.{Changeable, none, touched, value_at, UsedWord, one_word}

-- a filled record keeps all but its state
pub filled_kept : (e : Effect) (s : Tables) → Fits e s → (q : RecordNo) → q.0 < s.totals.records → 0 < count_at s.records q → filling_at (apply e s).records q ≡ filling_at s.records q
unfolding apply taken_record
filled_kept effect.Nothing s f q l c = refl
filled_kept effect.Bump s f q l c = refl
filled_kept (effect.TakeThree k x p) s f q l c = filling_new_record_record s.records (record_no s.totals.records) aborted unfilled q (λ e. let z : q.0 ≡ s.totals.records = e in omega arith)
filled_kept (effect.TakeCopy y x p) s f q l c = filling_new_record_record s.records (record_no s.totals.records) aborted unfilled q (λ e. let z : q.0 ≡ s.totals.records = e in omega arith)
filled_kept (effect.CopyChild x left y) s f q l c = refl
filled_kept (effect.Fill r g) s f q l c = filling_new_record_record s.records r undecided g q (λ e. let same : q ≡ r = ap record_no e in let empty : count_at s.records q ≡ 0 = rw same f.empty in omega arith)
filled_kept (effect.Freeze x u) s f q l c = refl
filled_kept (effect.SetState r v) s f q l c = filling_set_state s.records r v q
filled_kept (effect.Link x left y) s f q l c = refl

-- all that a turn of worker w leaves alone, and the one changeable word that it may change
pub record Framed (s after : World) (w : ℕ) : Type 0 where
  pub workers : (u : ℕ) → u ≢ w → worker_at after u ≡ worker_at s u
  pub pending : (u i : ℕ) → u ≢ w → i < (totals_of s).n → get_or after.pending (spot (totals_of s) u i) 0 ≡ get_or s.pending (spot (totals_of s) u i) 0
  pub found : (u i : ℕ) (z : ℤ) → u ≢ w → i < (totals_of s).n → get_or after.found (spot (totals_of s) u i) z ≡ get_or s.found (spot (totals_of s) u i) z
  pub later : Later (tables_of s) (tables_of after)
  pub fixed : KeepsFixed (totals_of s).nodes s.nodes after.nodes
  pub filled : (q : RecordNo) → q.0 < (totals_of s).records → 0 < count_at s.records q → filling_at after.records q ≡ filling_at s.records q
  pub at : Changeable
  pub other : (c : Changeable) → UsedWord (tables_of s) c → c ≢ at → value_at (tables_of after) c ≡ value_at (tables_of s) c

framed_same : (s : World) (w : ℕ) → Framed s s w
framed_same s w = record { workers = λ u ne. refl; pending = λ u i ne l. refl; found = λ u i z ne l. refl; later = record { totals = grows_same (totals_of s); counts = λ r l c. refl }; fixed = λ y l. refl; filled = λ q l c. refl; at = none; other = λ c l ne. refl }

module _ (s : World) (h : Sound s) (w : ℕ) where
  settled_framed : (o : Operation) (d : Step) → GoodStep (tables_of s) (home_of o) (listed_by o) (worker_at s w).pending (worker_at s w).found d → Framed s (settled s w (worker_at s w) o d) w
  settled_framed o d good =
      let kept = effect_keeps d.effect (tables_of s) h.shared good.fits in
      unfold settled in record {
        workers = others_stay;
        pending = λ u i ne l. pushed_other d.pending good.pending u i ne l;
        found = λ u i z ne l. added_other d.found good.found u i z ne l;
        later = kept.later;
        fixed = kept.fixed;
        filled = λ q l c. filled_kept d.effect (tables_of s) good.fits q l c;
        at = touched d.effect;
        other = λ c l ne. one_word d.effect (tables_of s) c l ne;
      }
    where
      others_stay : (u : ℕ) → u ≢ w → worker_at (settled s w (worker_at s w) o d) u ≡ worker_at s u
      others_stay u ne = unfold settled in unfold worker_at in get_or-set_other s.board.workers w u _ idle ne

      pushed_other : (c : PendingChange) → PendingFits (totals_of s) (worker_at s w).pending c → (u i : ℕ) → u ≢ w → i < (totals_of s).n → get_or (pushed s.pending (spot (totals_of s) w (worker_at s w).pending) c) (spot (totals_of s) u i) 0 ≡ get_or s.pending (spot (totals_of s) u i) 0
      pushed_other pending.Keep p u i ne l = unfold pushed in refl
      pushed_other (pending.Push x) p u i ne l = unfold pushed in get_or-set_other s.pending _ _ x.0 0 (spot_other (totals_of s) w u _ i p.0 l ne)
      pushed_other pending.Pop p u i ne l = unfold pushed in refl

      added_other : (c : Option Key) → FoundFits (totals_of s) (worker_at s w).found c → (u i : ℕ) (z : ℤ) → u ≢ w → i < (totals_of s).n → get_or (added s.found (spot (totals_of s) w (worker_at s w).found) c) (spot (totals_of s) u i) z ≡ get_or s.found (spot (totals_of s) u i) z
      added_other None p u i z ne l = unfold added in refl
      added_other (Some k) p u i z ne l = unfold added in get_or-set_other s.found _ _ _ z (spot_other (totals_of s) w u _ i p l ne)

  settle_framed : (o : Operation) (e : Decision) → Good (tables_of s) (home_of o) (listed_by o) (worker_at s w).pending (worker_at s w).found e → Framed s (settle s w (worker_at s w) o e).world w
  unfolding settle
  settle_framed o None good = framed_same s w
  settle_framed o (Some d) good = settled_framed o d good

  on_framed : w < (totals_of s).p → (c : Option Operation) → (worker_at s w).operation ≡ c → Framed s (step_on s w (worker_at s w) c).world w
  unfolding step_on
  on_framed l None e = framed_same s w
  on_framed l (Some o) e = settle_framed o _ (unfold lists_of in decide_good (tables_of s) h.shared (lists_of s w (worker_at s w)) o (worker_at s w).hand (h.workers w l).hand (top_used s h w l) (subst (ConditionSound s.records (worker_at s w).hand (worker_at s w).pending) e (h.workers w l).place))

  step_framed : Framed s (step_of s w).world w
  unfolding step_of
  step_framed = fork (λ (r : Left). Framed s r.world w) (ltb w (totals_of s).p) (λ l. on_framed (ltb-true _ _ l) (worker_at s w).operation refl) (λ _. framed_same s w)

  pub turn_framed : Framed s (turn_of s w).world w
  unfolding turn_of
  turn_framed = fork (λ (r : Left). Framed s r.world w) (sound_of s) (λ _. step_framed) (λ _. framed_same s w)
