-- READCHILD (lines 43 to 48): a node's child as a phase sees it.
use Rattle.std.specs.Prelude.{ℕ, zero, suc, List, Bool, leb, Option, None, Some}
use Rattle.laws.specs.Choice.{pick}
use Rattle.shapes.specs.declared.NodeNo.{NodeNo}
use Rattle.shapes.specs.declared.Phase.{Phase}
use Rattle.tables.specs.Nodes.{is_internal, phase_at, prev_at, child_at}

-- lines 46 and 47: along prev to the first node of a phase no later than seq, in at most so many steps; absent at the end of prev
unfoldable pub walk_back : ℕ → List ℕ → Phase → Option NodeNo → Option NodeNo
walk_back zero ns seq x = None
walk_back (suc k) ns seq None = None
walk_back (suc k) ns seq (Some x) = let further = walk_back k ns seq (prev_at ns x) in pick (leb (phase_at ns x).0 seq.0) (Some x) further

-- prev is a smaller number in sound tables, so as many steps as nodes are used are enough
unfoldable pub read_child : ℕ → List ℕ → NodeNo → Bool → Phase → Option NodeNo
read_child used ns x left seq = walk_back used ns seq (Some (child_at ns x left))

-- a node that may be used as a parent: it is there, and internal
unfoldable pub as_parent : List ℕ → Option NodeNo → Option NodeNo
as_parent ns None = None
as_parent ns (Some x) = pick (is_internal ns x) (Some x) None
