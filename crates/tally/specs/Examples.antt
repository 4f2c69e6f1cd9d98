-- 01's schedule "in hexadecimal" and its three lines, and what is no schedule, computed from the definition.
use Rattle.std.specs.Prelude.{ℕ, ◌≡◌, refl, List, [], ◌∷◌}
use Rattle.steps.specs.Opened.{steps_opened}
use Rattle.tally.specs.Opened.{tally_opened}
use Rattle.tally.specs.Whole.{printed}

-- 10 04 02 01 00 0A 05 00 12 04 01 00 12 05 01 08
abbrev sample : List ℕ
sample = 16 ∷ 4 ∷ 2 ∷ 1 ∷ 0 ∷ 10 ∷ 5 ∷ 0 ∷ 18 ∷ 4 ∷ 1 ∷ 0 ∷ 18 ∷ 5 ∷ 1 ∷ 8 ∷ []

pub record Examples : Type 0 where
  -- 2 0 yes 18; 4 1 keys 8 5; end 4 6 2 1
  pub worked : printed sample ≡ 50 ∷ 32 ∷ 48 ∷ 32 ∷ 121 ∷ 101 ∷ 115 ∷ 32 ∷ 49 ∷ 56 ∷ 10 ∷ 52 ∷ 32 ∷ 49 ∷ 32 ∷ 107 ∷ 101 ∷ 121 ∷ 115 ∷ 32 ∷ 56 ∷ 32 ∷ 53 ∷ 10 ∷ 101 ∷ 110 ∷ 100 ∷ 32 ∷ 52 ∷ 32 ∷ 54 ∷ 32 ∷ 50 ∷ 32 ∷ 49 ∷ 10 ∷ []
  -- bad 0
  pub empty : printed [] ≡ 98 ∷ 97 ∷ 100 ∷ 32 ∷ 48 ∷ 10 ∷ []
  -- a find of 5 by worker 0, 6 turns of it in two commands, then command 6: 3 0 no 6; bad 4
  pub two_parts : printed (16 ∷ 4 ∷ 2 ∷ 3 ∷ 0 ∷ 10 ∷ 5 ∷ 0 ∷ 4 ∷ 5 ∷ 0 ∷ 9 ∷ 6 ∷ []) ≡ 51 ∷ 32 ∷ 48 ∷ 32 ∷ 110 ∷ 111 ∷ 32 ∷ 54 ∷ 10 ∷ 98 ∷ 97 ∷ 100 ∷ 32 ∷ 52 ∷ 10 ∷ []
  -- a start on a busy worker, a turn on an idle one, worker P: 2 0 refused 4; 3 1 refused 5; 4 2 refused 3; end 4 3 1 0
  pub refusals : printed (16 ∷ 4 ∷ 2 ∷ 3 ∷ 0 ∷ 10 ∷ 1 ∷ 0 ∷ 10 ∷ 5 ∷ 1 ∷ 1 ∷ 5 ∷ 2 ∷ 1 ∷ []) ≡ 50 ∷ 32 ∷ 48 ∷ 32 ∷ 114 ∷ 101 ∷ 102 ∷ 117 ∷ 115 ∷ 101 ∷ 100 ∷ 32 ∷ 52 ∷ 10 ∷ 51 ∷ 32 ∷ 49 ∷ 32 ∷ 114 ∷ 101 ∷ 102 ∷ 117 ∷ 115 ∷ 101 ∷ 100 ∷ 32 ∷ 53 ∷ 10 ∷ 52 ∷ 32 ∷ 50 ∷ 32 ∷ 114 ∷ 101 ∷ 102 ∷ 117 ∷ 115 ∷ 101 ∷ 100 ∷ 32 ∷ 51 ∷ 10 ∷ 101 ∷ 110 ∷ 100 ∷ 32 ∷ 52 ∷ 32 ∷ 51 ∷ 32 ∷ 49 ∷ 32 ∷ 48 ∷ 10 ∷ []

pub examples : Examples
unfolding steps_opened tally_opened
examples = record { worked = refl; empty = refl; two_parts = refl; refusals = refl }
