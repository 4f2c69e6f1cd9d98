-- Demand 3: a screen never waits on a lane. Whatever the other workers do or leave undone, a scan is never refused, and its turns are bounded by the tree that it reads.
use Rattle.std.specs.Prelude.{ℕ, ◌+◌, ◌*◌, ◌≤◌, ◌<◌, ◌≡◌, ◌≢◌, List, ◌∷◌, false, None, Some, Ok}
use Rattle.shapes.specs.declared.Key.{Key}
use Rattle.shapes.specs.declared.Place.{Place}
use Rattle.shapes.specs.declared.Place.TheVariants.{Counter130}
use Rattle.shapes.specs.declared.Operation.TheVariants.{Scan}
use Rattle.shapes.specs.declared.Answer.{Answer}
use Rattle.tables.specs.World.{World, worker_at}
use Rattle.tables.specs.Fresh.{fresh_of}
use Rattle.steps.specs.Turn.{turn_of}
use Rattle.steps.specs.Kept.{is_refused}
use Rattle.bound.specs.Histories.{Call, turn, after, turns_of, inner_nodes}

-- worker w holds a scan that has read its phase, which is i: it is past its first turn, line 130
pub record HasPhase (s : World) (w i : ℕ) : Type 0 where
  pub low : Key
  pub high : Key
  pub place : Place
  pub holds : (worker_at s w).operation ≡ Some (Scan low high place)
  pub past : place ≢ Counter130
  pub phase : (worker_at s w).hand.seq.0 ≡ i

-- 2 turns for Counter, 16 for each internal node now in the table whose phase is at most i
unfoldable pub most_turns : World → ℕ → ℕ
most_turns s i = 2 + 16 * inner_nodes s i

-- worker w after history h from fresh tables s, its scan's phase being i
pub record NeverWaits (s : World) (h : List Call) (w i : ℕ) : Type 0 where
  -- a turn asked of it now is not refused
  pub accepted : is_refused (turn_of (after s h) w).outcome ≡ false
  -- it has no answer: it has taken fewer turns
  pub going : turns_of s w h < most_turns (after s h) i
  -- where that turn answers, it has taken at most so many, with the nodes counted at that moment
  pub answers : (a : Answer) → (turn_of (after s h) w).outcome ≡ Ok (Some a) → turns_of s w (turn w ∷ h) ≤ most_turns (after s (turn w ∷ h)) i

-- for fresh tables of any N, M and P that are not refused, in any lent tables; every history; every worker; every phase
unfoldable pub Bound : Type 0
Bound = (n m p : ℕ) (lent : World) → (fresh_of n m p lent).outcome ≡ Ok None →
    (h : List Call) (w i : ℕ) → w < p → HasPhase (after (fresh_of n m p lent).world h) w i → NeverWaits (fresh_of n m p lent).world h w i
