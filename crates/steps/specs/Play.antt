-- Evenings played from fresh tables, as 01 tells them.
use Rattle.std.specs.Prelude.{ℕ, zero, suc, ◌+◌, ◌*◌, List, [], ◌∷◌, ◌++◌, Bool, true, false, ◌&&◌, eqb, replicate, take, drop, ℤ, pos, Option, None, Some}
use Rattle.laws.specs.Choice.{pick}
use Rattle.shapes.specs.declared.Place.{Place}
use Rattle.shapes.specs.declared.Operation.TheVariants.{Insert, Delete, Find, Scan}
use Rattle.shapes.specs.declared.Operation.{Operation}
use Rattle.shapes.specs.Outcomes.{Outcome}
use Rattle.tables.specs.Names.{key_of}
use Rattle.tables.specs.Nodes.{node_width}
use Rattle.tables.specs.Records.{record_width}
use Rattle.tables.specs.World.{World, Tables, totals_of, idle, worker_at, spot}
use Rattle.tables.specs.Fresh.{fresh_of}
use Rattle.steps.specs.Turn.{Ran, step_of, insert_of, delete_of, find_of, scan_of, run_by, run_from}

-- tables for N, M and three workers, lent full of nines, a few places longer than they need be
abbrev pub lent : ℕ → ℕ → World
lent n m = record {
  board = record { totals = record { n = 9; m = 9; p = 9; nodes = 9; records = 9; counter = 9 }; workers = replicate 8 idle };
  nodes = replicate (n * node_width + 3) 9;
  records = replicate (m * record_width + 3) 9;
  pending = replicate (n * 3 + 3) 9;
  found = replicate (n * 3 + 3) (pos 9);
}

unfoldable pub fresh : ℕ → ℕ → World
fresh n m = (fresh_of n m 3 (lent n m)).world

unfoldable pub insert : ℕ → ℤ → World → World
insert w k s = (insert_of s w (key_of k)).world

unfoldable pub delete : ℕ → ℤ → World → World
delete w k s = (delete_of s w (key_of k)).world

unfoldable pub find : ℕ → ℤ → World → World
find w k s = (find_of s w (key_of k)).world

unfoldable pub scans : ℕ → ℤ → ℤ → World → World
scans w a b s = (scan_of s w (key_of a) (key_of b)).world

-- enough turns for any operation that is played here
abbrev pub to_the_end : ℕ
to_the_end = 100

unfoldable pub answer : ℕ → World → Ran
answer w s = run_from to_the_end 0 w s

-- ---- what an evening shows

pub record Shown : Type 0 where
  pub outcome : Outcome
  pub turns : ℕ
  pub nodes : ℕ
  pub records : ℕ
  pub counter : ℕ

abbrev pub shown : Outcome → ℕ → ℕ → ℕ → ℕ → Shown
shown o n a b c = record { outcome = o; turns = n; nodes = a; records = b; counter = c }

-- the outcome, the turns, nodes used, records used, Counter
unfoldable pub show : Ran → Shown
show r = shown r.outcome r.turns (totals_of r.world).nodes (totals_of r.world).records (totals_of r.world).counter

-- the first k found keys of worker w
unfoldable pub keys_of : ℕ → ℕ → Ran → List ℤ
keys_of k w r = take k (drop (spot (totals_of r.world) w 0) r.world.found)

-- ---- evenings of many operations: the same runs, without asking at each turn whether the tables are sound

-- up to k turns of worker w, which had taken n before
abbrev pub stepped : ℕ → ℕ → ℕ → World → Ran
stepped = run_by step_of

-- worker w takes k turns, or all that it has
unfoldable pub took : ℕ → ℕ → World → World
took k w s = (stepped k 0 w s).world

unfoldable pub done : ℕ → World → World
done w s = took to_the_end w s

-- what worker w's operation comes to, where it had taken so many turns before
unfoldable pub ends : ℕ → ℕ → World → Shown
ends before w s = show (stepped to_the_end before w s)

unfoldable pub place_in : Option Operation → List Place
place_in None = []
place_in (Some (Insert k q)) = q ∷ []
place_in (Some (Delete k q)) = q ∷ []
place_in (Some (Find k q)) = q ∷ []
place_in (Some (Scan a b q)) = q ∷ []

-- the places of worker w's next k turns, in order
unfoldable pub places_of : ℕ → ℕ → World → List Place
places_of zero w s = []
places_of (suc k) w s =
    let rest = places_of k w (step_of s w).world in
    place_in (worker_at s w).operation ++ rest

-- ---- the same as before

unfoldable pub same_list : List ℕ → List ℕ → Bool
same_list [] [] = true
same_list [] (y ∷ ys) = false
same_list (x ∷ xs) [] = false
same_list (x ∷ xs) (y ∷ ys) =
    let rest = same_list xs ys in
    pick (eqb x y) rest false

unfoldable pub same_tables : Tables → Tables → Bool
same_tables s t =
    let a = s.totals in
    let b = t.totals in
    same_list (a.n ∷ a.m ∷ a.p ∷ a.nodes ∷ a.records ∷ a.counter ∷ []) (b.n ∷ b.m ∷ b.p ∷ b.nodes ∷ b.records ∷ b.counter ∷ []) && (same_list s.nodes t.nodes && same_list s.records t.records)
