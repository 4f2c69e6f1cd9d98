-- Histories: what was asked of fresh tables, call by call, and what is read off it.
use Rattle.std.specs.Prelude.{ℕ, suc, List, [], ◌∷◌, ◌&&◌, eqb, leb}
use Rattle.laws.specs.Choice.{pick}
use Rattle.shapes.specs.declared.Key.{Key}
use Rattle.tables.specs.Names.{node}
use Rattle.tables.specs.Nodes.{is_internal, phase_at}
use Rattle.tables.specs.World.{World, totals_of}
use Rattle.tables.specs.Fresh.{Left}
use Rattle.steps.specs.Turn.{insert_of, delete_of, find_of, scan_of, turn_of}
use Rattle.steps.specs.Kept.{is_refused}
use Rattle.trees.specs.Count.{count}

-- every call that takes the tables: the four starts and a turn, on any worker number
pub data Call : Type 0 where
  insert : ℕ → Key → Call
  delete : ℕ → Key → Call
  find : ℕ → Key → Call
  scan : ℕ → Key → Key → Call
  turn : ℕ → Call

-- what a call comes to, refused or not
unfoldable pub asked : World → Call → Left
asked s (insert w k) = insert_of s w k
asked s (delete w k) = delete_of s w k
asked s (find w k) = find_of s w k
asked s (scan w a b) = scan_of s w a b
asked s (turn w) = turn_of s w

-- the world after a list of calls, the last call first
unfoldable pub after : World → List Call → World
after s [] = s
after s (c ∷ h) = (asked (after s h) c).world

-- what an accepted call makes of a worker's count: a start of its own sets it to 0, a turn of its own adds 1
unfoldable pub counted : ℕ → ℕ → Call → ℕ
counted w n (insert u k) = pick (eqb u w) 0 n
counted w n (delete u k) = pick (eqb u w) 0 n
counted w n (find u k) = pick (eqb u w) 0 n
counted w n (scan u a b) = pick (eqb u w) 0 n
counted w n (turn u) = pick (eqb u w) (suc n) n

-- the accepted turns of worker w since its last accepted start
unfoldable pub turns_of : World → ℕ → List Call → ℕ
turns_of s w [] = 0
turns_of s w (c ∷ h) =
    let before = turns_of s w h in
    pick (is_refused (asked (after s h) c).outcome) before (counted w before c)

-- the internal nodes now in the table whose phase is at most i
unfoldable pub inner_nodes : World → ℕ → ℕ
inner_nodes s i = count (totals_of s).nodes (λ n. is_internal s.nodes (node n) && leb (phase_at s.nodes (node n)).0 i)
