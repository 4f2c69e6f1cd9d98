-- 01, 'Sizes' and 'Fresh tables'.
use Rattle.std.specs.Prelude.{ℕ, ◌*◌, List, [], ◌∷◌, ◌++◌, Bool, ◌&&◌, length, drop, replicate, ℤ, pos, leb, None, Ok, Err}
use Rattle.laws.specs.Choice.{pick}
use Rattle.laws.specs.Tests.{all}
use Rattle.shapes.specs.Numbers.{least_n, most_n, least_m, most_m, least_p, most_p}
use Rattle.shapes.specs.declared.Board.{Board}
use Rattle.shapes.specs.declared.Reply.{Reply}
use Rattle.shapes.specs.declared.Refusal.{Refusal}
use Rattle.shapes.specs.declared.Refusal.TheVariants as refusal
use Rattle.shapes.specs.Outcomes.{Outcome}
use Rattle.tables.specs.Names.{node, phase, root, dummy, infinite}
use Rattle.tables.specs.Nodes.{node_width, new_node}
use Rattle.tables.specs.Records.{record_width, new_record, aborted, unfilled}
use Rattle.tables.specs.World.{World, world, idle}

-- all that a call leaves
pub record Left : Type 0 where
  pub world : World
  pub outcome : Outcome

abbrev pub left : Reply → List ℕ → List ℕ → List ℕ → List ℤ → Left
left r ns rs ps fs = record { world = world r.board ns rs ps fs; outcome = r.outcome }

-- a refusal leaves all as before
abbrev pub refused : World → Refusal → Left
refused s r = record { world = s; outcome = Err r }

unfoldable pub between : ℕ → ℕ → ℕ → Bool
between a x b = leb a x && leb x b

unfoldable pub sizes_ok : ℕ → ℕ → ℕ → Bool
sizes_ok n m p = all (between least_n n most_n ∷ between least_m m most_m ∷ between least_p p most_p ∷ [])

-- the lent tables are long enough
unfoldable pub lent_ok : ℕ → ℕ → ℕ → World → Bool
lent_ok n m p s = all (leb (n * node_width) (length s.nodes) ∷ leb (m * record_width) (length s.records) ∷ leb (p * n) (length s.pending) ∷ leb (p * n) (length s.found) ∷ [])

-- what lies beyond the first k places keeps its contents
unfoldable pub cleared : {A : Type 0} → ℕ → A → List A → List A
cleared k z l = replicate k z ++ drop k l

-- node 0 is the Root: internal, ∞2, children 1 and 2; node 1 is a leaf ∞1, node 2 a leaf ∞2; all have phase 0 and no prev
unfoldable pub fresh_nodes : ℕ → List ℕ → List ℕ
fresh_nodes n ns =
    new_node (new_node (new_node (cleared (n * node_width) 0 ns)
    root 1 (infinite 2) (phase 0) None (node 1) (node 2))
    (node 1) 0 (infinite 1) (phase 0) None root root)
    (node 2) 0 (infinite 2) (phase 0) None root root

-- record 0 is the dummy, state ABORT
unfoldable pub fresh_records : ℕ → List ℕ → List ℕ
fresh_records m rs = new_record (cleared (m * record_width) 0 rs) dummy aborted unfilled

unfoldable pub fresh_board : ℕ → ℕ → ℕ → Board → Board
fresh_board n m p b = record { totals = record { n = n; m = m; p = p; nodes = 3; records = 1; counter = 0 }; workers = cleared p idle b.workers }

unfoldable pub fresh_world : ℕ → ℕ → ℕ → World → World
fresh_world n m p s = record {
  board = fresh_board n m p s.board;
  nodes = fresh_nodes n s.nodes;
  records = fresh_records m s.records;
  pending = cleared (p * n) 0 s.pending;
  found = cleared (p * n) (pos 0) s.found;
}

-- refusal 2: N, M or P outside the sizes, or tables lent too short for them
unfoldable pub fresh_of : ℕ → ℕ → ℕ → World → Left
fresh_of n m p s =
    pick (sizes_ok n m p && lent_ok n m p s)
    (record { world = fresh_world n m p s; outcome = Ok None })
    (refused s refusal.Size)
