-- Turn counts are exact: no schedule has commands enough to come to the greatest count that is kept.
use Rattle.std.specs.Prelude.{ℕ, zero, suc, ◌+◌, ◌*◌, ◌≤◌, ◌≡◌, refl, List, length, get_or, set, drop, replicate, None, Some, Ok, Err}
use Rattle.std.proofs.Common.{arith, le-leb}
use Rattle.laws.specs.Choice.{pick_true}
use Rattle.laws.specs.Parts.{below_head, below_tail}
use Rattle.kept.specs.Spots.{at_set}
use Rattle.schedule.specs.Numbers.{most_bytes, turns}
use Rattle.schedule.specs.Format.{numbers_of, Proper}
use Rattle.schedule.specs.Answers.{OpeningReading, CommandReading}
use Rattle.schedule.specs.Reading.{opening_at, command_at}
use Rattle.schedule.specs.Openings.{opening_opens}
use Rattle.schedule.proofs.Standing.{command_stands}
use Rattle.shapes.specs.Numbers.{most_p}
use Rattle.shapes.specs.Outcomes.{Outcome}
use Rattle.tables.specs.World.{World}
use Rattle.tables.specs.Fresh.{Left}
use Rattle.steps.specs.Turn.{turn_of, goes_on, run_by, run_from, run_of, Ran}
use Rattle.schedule.specs.declared.Command.{Command}
use Rattle.schedule.specs.declared.Command.TheVariants.{Insert, Delete, Find, Scan, Turns}
use Rattle.tally.specs.Playing.{Evening, most_turns, counted, started_counts, begun, ran, play_by, play_of}
use Rattle.tally.specs.Whole.{fresh_evening, going, play_from, begins, printed_by}

-- ---- a run takes no more turns than it was given

goes_on_few : (o : Outcome) (s : World) (n k : ℕ) (rest : Ran) → rest.turns ≤ suc n + k → (goes_on o s n rest).turns ≤ n + suc k
unfolding goes_on
goes_on_few (Ok None) s n k rest h = omega (arith, h)
goes_on_few (Ok (Some a)) s n k rest h = omega arith
goes_on_few (Err r) s n k rest h = omega arith

runs_few : (k n w : ℕ) (s : World) → (run_from k n w s).turns ≤ n + k
unfolding run_by
runs_few zero n w s = omega arith
runs_few (suc k) n w s = goes_on_few (turn_of s w).outcome (turn_of s w).world n k (run_from k (suc n) w (turn_of s w).world) (runs_few k (suc n) w (turn_of s w).world)

pub run_few : (n w : ℕ) (s : World) → (run_of n s w).turns ≤ n
unfolding run_of
run_few n w s = omega (arith, runs_few n 0 w s)

-- ---- counts stay small

-- no count is above b
abbrev pub AtMost : ℕ → List ℕ → Type 0
AtMost b counts = (w : ℕ) → get_or counts w 0 ≤ b

set-at_most : (b w x : ℕ) (counts : List ℕ) → AtMost b counts → x ≤ b → AtMost b (set counts w x)
set-at_most b w x counts h le = λ v. at_set (λ (y : ℕ). y ≤ b) counts w v x 0 (λ _ _. le) (λ _. h v)

started-at_most : (b w : ℕ) (o : Outcome) (counts : List ℕ) → AtMost b counts → AtMost b (started_counts o w counts)
unfolding started_counts
started-at_most b w (Ok None) counts h = set-at_most b w 0 counts h (omega arith)
started-at_most b w (Ok (Some a)) counts h = h
started-at_most b w (Err r) counts h = h

-- the greatest n of a command
abbrev pub most_asked : ℕ
most_asked = 4294967295

unfoldable pub turns_in : Command → ℕ
turns_in (Insert w k) = 0
turns_in (Delete w k) = 0
turns_in (Find w k) = 0
turns_in (Scan w a b) = 0
turns_in (Turns w n) = n

begun-at_most : (number b w : ℕ) (counts : List ℕ) (d : Left) → AtMost b counts → AtMost (b + most_asked) (begun number w counts d).evening.turns
unfolding begun
begun-at_most number b w counts d h = λ v. omega (arith, started-at_most b w d.outcome counts h v)

-- a command adds no more than its own turns
played-at_most : (number b : ℕ) (c : Command) (e : Evening) → turns_in c ≤ most_asked → AtMost b e.turns → AtMost (b + most_asked) (play_by ◌+◌ number c e).evening.turns
unfolding play_by ran turns_in
played-at_most number b (Insert w k) e few h = begun-at_most number b w e.turns _ h
played-at_most number b (Delete w k) e few h = begun-at_most number b w e.turns _ h
played-at_most number b (Find w k) e few h = begun-at_most number b w e.turns _ h
played-at_most number b (Scan w x y) e few h = begun-at_most number b w e.turns _ h
played-at_most number b (Turns w n) e few h = set-at_most (b + most_asked) w _ e.turns (λ v. omega (arith, h v)) (omega (arith, h w, run_few n w e.world))

-- ---- so the count that is kept is the sum

exact_one : (number b : ℕ) (c : Command) (e : Evening) → turns_in c ≤ most_asked → AtMost b e.turns → b + most_asked ≤ most_turns → play_of number c e ≡ play_by ◌+◌ number c e
unfolding play_by ran turns_in counted
exact_one number b (Insert w k) e few h room = refl
exact_one number b (Delete w k) e few h room = refl
exact_one number b (Find w k) e few h room = refl
exact_one number b (Scan w x y) e few h room = refl
exact_one number b (Turns w n) e few h room = rw (pick_true _ _ _ (le-leb (get_or e.turns w 0 + (run_of n e.world w).turns) most_turns (omega (arith, h w, run_few n w e.world, room)))) refl

-- ---- over all that is printed, whatever the bytes

proper_few : (c : Command) → Proper c → turns_in c ≤ most_asked
unfolding turns_in numbers_of
proper_few (Insert w k) h = omega arith
proper_few (Delete w k) h = omega arith
proper_few (Find w k) h = omega arith
proper_few (Scan w a b) h = omega arith
proper_few (Turns w n) h = omega (arith, below_head _ n _ (below_tail _ w _ (below_tail _ turns _ h.fits)))

-- a command, if what follows it is exact
exact_going : (done b : ℕ) (s : List ℕ) (e : Evening) (capped summed : ℕ → Evening → List ℕ)
    → AtMost b e.turns → b + most_asked ≤ most_turns
    → ((end : ℕ) (after : Evening) → AtMost (b + most_asked) after.turns → capped end after ≡ summed end after)
    → (r : CommandReading) → command_at s ≡ r → going counted done e r capped ≡ going ◌+◌ done e r summed
unfolding going
exact_going done b s e capped summed h room rest None at = refl
exact_going done b s e capped summed h room rest (Some (c, end)) at =
    let few = proper_few c (command_stands s c end at).proper in
    rw (exact_one (suc done) b c e few h room, rest end (play_by ◌+◌ (suc done) c e).evening (played-at_most (suc done) b c e few h)) refl

-- no more than k commands are left, and there is room for the most that they can ask
exact_from : (k done b : ℕ) (s : List ℕ) (e : Evening) → AtMost b e.turns → b + k * most_asked ≤ most_turns → play_from counted k done s e ≡ play_from ◌+◌ k done s e
unfolding play_from
exact_from zero done b s e h room = refl
exact_from (suc k) done b s e h room =
    let left : b + most_asked + k * most_asked ≤ most_turns = omega (arith, room) in
    rw (exact_going done b s e _ _ h (omega (arith, left)) (λ end after few. exact_from k (suc done) (b + most_asked) (drop end s) after few left) (command_at s) refl) refl

none_counted : (p : ℕ) → AtMost 0 (replicate p 0)
none_counted zero w = omega arith
none_counted (suc p) zero = omega arith
none_counted (suc p) (suc w) = none_counted p w

-- what is printed with counts that are capped is what is printed with the sums of the turns taken
pub exact : (s : List ℕ) → printed_by counted s ≡ printed_by ◌+◌ s
unfolding printed_by begins fresh_evening
exact s = by (opening_at s) refl
  where
    by : (r : OpeningReading) → opening_at s ≡ r → begins counted r s ≡ begins ◌+◌ r s
    by None at = refl
    by (Some (o, end)) at =
        let few : length s ≤ most_bytes = (opening_opens s o.n o.m o.p end at).few in
        exact_from (length s) 0 0 (drop end s) (fresh_evening o.n o.m o.p) (none_counted most_p) (omega (arith, few))
