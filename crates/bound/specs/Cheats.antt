-- 01, 'How tight the contracts are': demand 3 is stated over demand 2's turns, and its count is the accepted turns in the history. So none of these meets both.
use Rattle.std.specs.Prelude.{[], ℕ, zero, suc, ◌≡◌, Bool, true, false, List, ◌∷◌, None, Some, Ok, Err}
use Rattle.shapes.specs.declared.Answer.{Answer}
use Rattle.shapes.specs.declared.Answer.TheVariants.{Keys}
use Rattle.shapes.specs.Outcomes.{Outcome}
use Rattle.tables.specs.World.{World}
use Rattle.tables.specs.Fresh.{Left}
use Rattle.steps.specs.Turn.{turn_of}
use Rattle.steps.specs.Play.{fresh}
use Rattle.bound.specs.Histories.{Call, find, scan, after, turns_of}
use Rattle.bound.specs.Examples.{key, turns, inserts5, scans, last_outcome}

-- what the first, second .. turn of P7's scan comes to
unfoldable pub outcomes : ℕ → List Outcome
outcomes zero = []
outcomes (suc k) = last_outcome (fresh 16 4) (scans (suc k) (inserts5 18 [])) ∷ outcomes k

unfoldable pub answered : Outcome → Bool
answered (Ok None) = false
answered (Ok (Some a)) = true
answered (Err r) = false

pub record Cheats : Type 0 where
  -- a scan that stops early: P7's scan has its answer in its eighth turn and in no earlier one, the last turn first
  pub eighth : outcomes 8 ≡ Ok (Some (Keys 1)) ∷ (Ok None) ∷ (Ok None) ∷ (Ok None) ∷ (Ok None) ∷ (Ok None) ∷ (Ok None) ∷ (Ok None) ∷ []
  -- so a turn that answers before, as in the third, is not demand 2's, whatever it answers
  pub stops_early : (t : World → ℕ → Left) → ((s : World) (w : ℕ) → t s w ≡ turn_of s w) → (a : Answer) → (t (after (fresh 16 4) (scans 2 (inserts5 18 []))) 1).outcome ≡ Ok (Some a) → ⊥
  -- a made-up count, whatever it is made of besides what the calls came to: two histories that ask the same of worker 1
  pub made_up_count : (count : ℕ → ℕ) → ((k : ℕ) (h : List Call) → turns_of (fresh 16 4) 1 (scans k h) ≡ count k) → ⊥
  -- a turn that alters nothing: the scan's second turn moves Counter
  pub alters_nothing : ((s : World) (w : ℕ) → (turn_of s w).world ≡ s) → ⊥
  -- what is counted: not the turns of others, not those refused after the answer; not anew by a start that is refused; anew by one that is not
  pub others : turns_of (fresh 16 4) 1 (turns 4 0 (find 0 (key 5) ∷ scans 3 [])) ≡ 3
  pub refused_turns : turns_of (fresh 16 4) 1 (scans 9 []) ≡ 5
  pub refused_start : turns_of (fresh 16 4) 1 (scan 1 (key 0) (key 9) ∷ scans 3 []) ≡ 3
  pub new_start : turns_of (fresh 16 4) 1 (scan 1 (key 0) (key 9) ∷ scans 5 []) ≡ 0
