-- The run's loop: what is left of it after t turns, by what the next turn comes to.
use Rattle.std.specs.Prelude.{None, Some, Ok, Err}
use Rattle.shapes.specs.Outcomes.{Outcome}
use Prim.Native.Nat.{ℕ, suc, ◌+◌, ◌-◌, ◌<◌}
use native.Mathlib.Omega.{arith}
use mathlib.Core.Path.{◌≡◌, refl, sym, ◌∙◌}
use mathlib.Core.Bool.{true, false, true≢false, false≢true}
use Rattle.tables.specs.World.{World}
use Rattle.tables.specs.Fresh.{Left}
use Rattle.steps.specs.Turn.{Ran, goes_on, run_by}
use Rattle.turning.specs.Fits.{step_within}
use Rattle.running.specs.Loop.{is_going, counted, steps_from}

-- what a turn that goes on leaves to the rest, and one that ends the run
goes_on_lem : (o : Outcome) (s : World) (t : ℕ) (rest : Ran) → is_going o ≡ true → goes_on o s t rest ≡ rest
unfolding goes_on is_going
goes_on_lem (Ok None) s t rest h = refl
goes_on_lem (Ok (Some a)) s t rest h = absurd (false≢true h)
goes_on_lem (Err r) s t rest h = absurd (false≢true h)

stops : (o : Outcome) (s : World) (t : ℕ) (rest : Ran) → is_going o ≡ false → goes_on o s t rest ≡ record { world = s; outcome = o; turns = counted o t (suc t) }
unfolding goes_on is_going counted
stops (Ok None) s t rest h = absurd (true≢false h)
stops (Ok (Some a)) s t rest h = refl
stops (Err r) s t rest h = refl

-- d is what the next turn leaves
module _ (n t w : ℕ) (s : World) (d : Left) (e : d ≡ step_within s w) (l : t < n) where
  next : steps_from (n - t) t w s ≡ goes_on d.outcome d.world t (steps_from (n - (t + 1)) (t + 1) w d.world)
  unfolding run_by
  next =
      let left : n - t ≡ suc (n - (t + 1)) = omega arith in
      let taken : t + 1 ≡ suc t = omega arith in
      rw (left, taken, e) refl

  pub goes : is_going d.outcome ≡ true → steps_from (n - (t + 1)) (t + 1) w d.world ≡ steps_from (n - t) t w s
  goes h = sym (next ∙ goes_on_lem _ _ _ _ h)

  pub ends_by : (u : ℕ) → u ≡ counted d.outcome t (t + 1) → is_going d.outcome ≡ false → record { world = d.world; outcome = d.outcome; turns = u } ≡ steps_from (n - t) t w s
  ends_by u f h = let one : t + 1 ≡ suc t = omega arith in sym (next ∙ stops _ _ _ _ h ∙ rw (f, one) refl)

-- n turns were taken
pub ends : (n t w : ℕ) (s : World) → t ≡ n → record { world = s; outcome = Ok None; turns = n } ≡ steps_from (n - t) t w s
unfolding run_by
ends n t w s l = let none : n - t ≡ 0 = omega (arith, l) in rw (none, l) refl
