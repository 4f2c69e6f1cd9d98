-- The tables made by hand on which a turn is crooked, a worker put at a place of them, and what it is for a turn to be crooked.
use Rattle.std.specs.Prelude.{ℕ, ◌≡◌, refl, true, ◌&&◌, replicate, take, pos, Option, None, Some, Ok, Err}
use mathlib.Core.List.{List, [], ◌∷◌, map, flatten}
use Rattle.shapes.specs.declared.Locals.{Locals}
use Rattle.shapes.specs.declared.HelpStep.{HelpStep}
use Rattle.shapes.specs.declared.HelpStep.TheVariants.{Counter111, Abort112, Try113, State114, Child123, Commit124, State125, Abort126, State127}
use Rattle.shapes.specs.declared.Back.TheVariants.{Own}
use Rattle.shapes.specs.declared.Place.{Place}
use Rattle.shapes.specs.declared.Place.TheVariants as place
use Rattle.shapes.specs.declared.Operation.TheVariants.{Insert, Delete, Scan}
use Rattle.shapes.specs.declared.Refusal.TheVariants as refusal
use Rattle.shapes.specs.Outcomes.{Outcome}
use Rattle.shapes.specs.declared.NodeNo.{NodeNo}
use Rattle.tables.specs.Names.{node, record_no, phase, key_of}
use Rattle.tables.specs.World.{World, idle}
use Rattle.tables.specs.Fresh.{refused}
use Rattle.steps.specs.Hand.{at_node, holding, with_i, with_sibling, with_taken}
use Rattle.steps.specs.Turn.{turn_of}
use Rattle.steps.proofs.Kept.{turn_keeps}
use Rattle.steps.specs.Opened.{steps_opened}
use Rattle.steps.specs.Play.{fresh, insert, took, done, same_list}
use Rattle.steps.specs.Hands.{with_node, with_counter, with_worker, busy, doing, hand, phase_word}
use Rattle.steps.specs.Deletes.{two}

-- what insert 5 and insert 3 leave (Deletes.two), with N = 9, M = 4 and P = 1, row by row: kind, class, key, phase, prev or not, prev, left,
-- right, update word. Internal are the Root 0, 5 and 8; leaves are 6 (key 3), 7 (key 5), 4 and 2, and in older versions 1 and 3.
abbrev pub rows : List (List ℕ)
rows =
    (1 ∷ 2 ∷ 0 ∷ 0 ∷ 0 ∷ 0 ∷ 5 ∷ 2 ∷ 0 ∷ 1 ∷ []) ∷
    (0 ∷ 1 ∷ 0 ∷ 0 ∷ 0 ∷ 0 ∷ 0 ∷ 0 ∷ 1 ∷ 1 ∷ []) ∷
    (0 ∷ 2 ∷ 0 ∷ 0 ∷ 0 ∷ 0 ∷ 0 ∷ 0 ∷ 0 ∷ 0 ∷ []) ∷
    (0 ∷ 0 ∷ 2147483653 ∷ 0 ∷ 0 ∷ 0 ∷ 0 ∷ 0 ∷ 1 ∷ 2 ∷ []) ∷
    (0 ∷ 1 ∷ 0 ∷ 0 ∷ 0 ∷ 0 ∷ 0 ∷ 0 ∷ 0 ∷ 0 ∷ []) ∷
    (1 ∷ 1 ∷ 0 ∷ 0 ∷ 1 ∷ 1 ∷ 8 ∷ 4 ∷ 0 ∷ 2 ∷ []) ∷
    (0 ∷ 0 ∷ 2147483651 ∷ 0 ∷ 0 ∷ 0 ∷ 0 ∷ 0 ∷ 0 ∷ 0 ∷ []) ∷
    (0 ∷ 0 ∷ 2147483653 ∷ 0 ∷ 0 ∷ 0 ∷ 0 ∷ 0 ∷ 0 ∷ 0 ∷ []) ∷
    (1 ∷ 0 ∷ 2147483653 ∷ 0 ∷ 1 ∷ 3 ∷ 6 ∷ 7 ∷ 0 ∷ 0 ∷ []) ∷ []

-- the dummy, insert 5's and insert 3's records, both committed; and, by hand, record 3, taken and unfilled, its state ⊥
abbrev pub infos : List (List ℕ)
infos =
    (0 ∷ 3 ∷ replicate 20 0) ∷
    (2 ∷ 2 ∷ 0 ∷ 1 ∷ 5 ∷ 0 ∷ 0 ∷ 0 ∷ 0 ∷ 0 ∷ 1 ∷ 0 ∷ 0 ∷ 1 ∷ replicate 8 0) ∷
    (2 ∷ 2 ∷ 5 ∷ 3 ∷ 8 ∷ 0 ∷ 5 ∷ 0 ∷ 0 ∷ 0 ∷ 3 ∷ 0 ∷ 0 ∷ 1 ∷ replicate 8 0) ∷
    replicate 22 0 ∷ []

unfoldable pub base : World
unfolding flatten
base = record {
  board = record { totals = record { n = 9; m = 4; p = 1; nodes = 9; records = 4; counter = 0 }; workers = replicate 8 idle };
  nodes = flatten rows;
  records = flatten infos;
  pending = replicate 9 0;
  found = replicate 9 (pos 0);
}

-- ---- worker 0 at a place

abbrev pub inserting : Place → Locals → World
inserting q v = doing (Insert (key_of (pos 5)) q) v base

abbrev pub deleting : Place → Locals → World
deleting q v = doing (Delete (key_of (pos 5)) q) v base

-- a scan of a to b at node p, with so many pending and found
abbrev pub scanning : ℕ → ℕ → Place → ℕ → ℕ → ℕ → World
scanning a b q p pending found = with_worker 0 (busy (Scan (key_of (pos a)) (key_of (pos b)) q) (at_node (phase 0) (node p)) pending found) base

-- node x is of phase 1, and so is Counter: a walk of phase 0 does not stop there
abbrev pub later : ℕ → World → World
later x s = with_node x phase_word 1 (with_counter 1 s)

-- ---- what is in hand: gp 5, p 8, l 7 (key 5), sibling 6, of which node 3 may be the copy

abbrev pub below : Locals
below = hand (Some (node 5)) 8 7

-- EXECUTE's test i with these gp, p, sibling, copy and record
abbrev pub tests : ℕ → Option NodeNo → ℕ → ℕ → ℕ → ℕ → Locals
tests i gp p sibling copy r = with_i (with_taken (with_sibling (hand gp p 7) (node sibling)) (node copy) (record_no r)) i

-- HELP's step b on record r
abbrev pub helping : ℕ → HelpStep → World
helping r b = inserting (place.Help b Own) (holding (record_no r))

unfoldable pub outcomes : List World → List Outcome
outcomes l = map (λ s. (turn_of s 0).outcome) l

-- the steps of HELP outside the record's list
abbrev pub outside : List HelpStep
outside = Counter111 ∷ Abort112 ∷ Try113 ∷ State114 ∷ Child123 ∷ Commit124 ∷ State125 ∷ Abort126 ∷ State127 ∷ []

-- ---- a turn that is crooked, and one that is not

pub record Crooks (s : World) : Type 0 where
  pub leaves : turn_of s 0 ≡ refused s refusal.Crooked

abbrev pub GoesOn : World → Type 0
GoesOn s = (turn_of s 0).outcome ≡ Ok None

pub crooked : {s : World} → (turn_of s 0).outcome ≡ Err refusal.Crooked → Crooks s
crooked {s} e = record { leaves = turn_keeps s 0 refusal.Crooked e }

-- the tables made by hand are those that an evening leaves
pub played : same_list (flatten rows) (take 90 (two 9 4).nodes) && same_list (flatten infos) (take 88 (two 9 4).records) ≡ true
unfolding steps_opened fresh insert took done same_list two flatten
played = refl
