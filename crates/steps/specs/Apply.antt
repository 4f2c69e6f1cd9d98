-- What an effect does to the tables: at most one changeable word, or a creation.
use Rattle.std.specs.Prelude.{ℕ, ◌+◌, List, ltb, None, Some}
use Rattle.laws.specs.Choice.{pick}
use Rattle.shapes.specs.declared.NodeNo.{NodeNo}
use Rattle.shapes.specs.declared.Phase.{Phase}
use Rattle.shapes.specs.declared.Key.{Key}
use Rattle.shapes.specs.declared.Rank.{Rank}
use Rattle.shapes.specs.declared.Totals.{Totals}
use Rattle.shapes.specs.declared.Effect.{Effect}
use Rattle.shapes.specs.declared.Effect.TheVariants as effect
use Rattle.tables.specs.Names.{node, record_no, root, finite, value}
use Rattle.tables.specs.Nodes.{kind_at, rank_at, set_child, set_update, new_node}
use Rattle.tables.specs.Records.{undecided, aborted, set_state, new_record, unfilled}
use Rattle.tables.specs.World.{Tables, tables}

unfoldable pub bumped : Totals → Totals
bumped t = record { n = t.n; m = t.m; p = t.p; nodes = t.nodes; records = t.records; counter = t.counter + 1 }

-- k nodes more and a record more are used
unfoldable pub taken : Totals → ℕ → Totals
taken t k = record { n = t.n; m = t.m; p = t.p; nodes = t.nodes + k; records = t.records + 1; counter = t.counter }

-- line 163: the larger key at the top, the smaller one on the left
unfoldable pub top_of : List ℕ → NodeNo → NodeNo → NodeNo → Key → Rank → Phase → NodeNo → List ℕ
top_of ns new sibling x k b q l =
    pick (ltb k.0 (value b))
    (new_node ns x 1 b q (Some l) new sibling)
    (new_node ns x 1 (finite k) q (Some l) sibling new)

-- lines 161 to 163: a leaf of key k, a leaf of l's key, and above them the internal node whose prev is l
unfoldable pub three_nodes : List ℕ → ℕ → Key → NodeNo → Phase → List ℕ
three_nodes ns u k l q =
    let b = rank_at ns l in
    top_of (new_node (new_node ns (node u) 0 (finite k) q None root root) (node (u + 1)) 0 b q None root root) (node u) (node (u + 1)) (node (u + 2)) k b q l

-- line 185: the sibling's kind and key, prev p; until they are read its children stand as 0
unfoldable pub copy_of : List ℕ → ℕ → NodeNo → NodeNo → Phase → List ℕ
copy_of ns u sibling p q = new_node ns (node u) (kind_at ns sibling) (rank_at ns sibling) q (Some p) root root

unfoldable pub taken_record : List ℕ → ℕ → List ℕ
taken_record rs u = new_record rs (record_no u) aborted unfilled

unfoldable pub apply : Effect → Tables → Tables
apply effect.Nothing s = s
apply effect.Bump s = tables (bumped s.totals) s.nodes s.records
apply (effect.TakeThree k l q) s = tables (taken s.totals 3) (three_nodes s.nodes s.totals.nodes k l q) (taken_record s.records s.totals.records)
apply (effect.TakeCopy sibling p q) s = tables (taken s.totals 1) (copy_of s.nodes s.totals.nodes sibling p q) (taken_record s.records s.totals.records)
apply (effect.CopyChild x left c) s = tables s.totals (set_child s.nodes x left c) s.records
apply (effect.Fill r f) s = tables s.totals s.nodes (new_record s.records r undecided f)
apply (effect.Freeze x u) s = tables s.totals (set_update s.nodes x u) s.records
apply (effect.SetState r v) s = tables s.totals s.nodes (set_state s.records r v)
apply (effect.Link x left c) s = tables s.totals (set_child s.nodes x left c) s.records
