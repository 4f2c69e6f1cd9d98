-- A thousand turns on the largest tables, N = 1,024, M = 512, P = 8.
use Rattle.std.specs.Prelude.{ℕ, ◌≡◌, refl, Bool, true, List, [], ◌∷◌, take, ℤ, pos, None, Some, Ok}
use Rattle.shapes.specs.declared.Place.TheVariants as place
use Rattle.shapes.specs.declared.Operation.{Operation}
use Rattle.shapes.specs.declared.Operation.TheVariants.{Insert, Delete, Find, Scan}
use Rattle.shapes.specs.declared.Answer.TheVariants.{Yes}
use Rattle.tables.specs.Names.{key_of}
use Rattle.tables.specs.World.{worker_at}
use Rattle.sound.specs.Sound.{sound_of}
use Rattle.steps.specs.Turn.{Ran, started}
use Rattle.steps.specs.Opened.{steps_opened}
use Rattle.steps.specs.Play.{to_the_end, Shown, shown, show, stepped}
use Rattle.steps.specs.Hands.{exactly}

-- worker w does the whole of each operation; all turns are counted
unfoldable pub does : ℕ → List Operation → Ran → Ran
does w [] r = r
does w (o ∷ os) r = does w os (stepped to_the_end r.turns w (started r.world w (worker_at r.world w) o))

-- each of these workers does them
unfoldable pub each_does : List ℕ → List Operation → Ran → Ran
each_does [] os r = r
each_does (w ∷ ws) os r = each_does ws os (does w os r)

abbrev pub inserts : ℕ → Operation
inserts k = Insert (key_of (pos k)) place.Counter74

abbrev pub deletes : ℕ → Operation
deletes k = Delete (key_of (pos k)) place.Counter74

abbrev pub finds : ℕ → Operation
finds k = Find (key_of (pos k)) place.Counter74

abbrev pub scans : Operation
scans = Scan (key_of (pos 0)) (key_of (pos 9)) place.Counter130

-- 1, 2, 4, 3 and 5 come; each of eight workers finds all five and scans; all but 5 go
unfoldable pub thousand : Ran
thousand =
    let a : Ran = record { world = exactly 1024 512 8; outcome = Ok None; turns = 0 } in
    let b = does 7 (inserts 1 ∷ inserts 2 ∷ inserts 4 ∷ inserts 3 ∷ inserts 5 ∷ []) a in
    let c = each_does (0 ∷ 1 ∷ 2 ∷ 3 ∷ 4 ∷ 5 ∷ 6 ∷ 7 ∷ []) (finds 1 ∷ finds 2 ∷ finds 4 ∷ finds 3 ∷ finds 5 ∷ scans ∷ []) b in
    does 0 (deletes 1 ∷ deletes 2 ∷ deletes 4 ∷ deletes 3 ∷ []) c

-- what it comes to; worker 0's found keys; whether the tables are sound in the end
pub record Told : Type 0 where
  pub shown : Shown
  pub keys : List ℤ
  pub sound : Bool

unfoldable pub tell : Ran → Told
tell r = record { shown = show r; keys = take 5 r.world.found; sound = sound_of r.world }

-- 3 + 5 × 3 + 4 nodes, 1 + 5 + 4 records, 8 phases; worker 0's starts have set its count to 0 and kept the places behind it
pub large : tell thousand ≡ record { shown = shown (Ok (Some Yes)) 1000 22 10 8; keys = pos 5 ∷ pos 4 ∷ pos 3 ∷ pos 2 ∷ pos 1 ∷ []; sound = true }
unfolding steps_opened show does each_does thousand tell
large = refl
