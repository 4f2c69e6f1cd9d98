-- A node's row: its fields, read and written by name.
use Rattle.std.specs.Prelude.{ℕ, List, [], ◌∷◌, Bool, true, false, eqb, Option, None, Some}
use Rattle.laws.specs.Choice.{pick}
use Rattle.shapes.specs.declared.NodeNo.{NodeNo}
use Rattle.shapes.specs.declared.Rank.{Rank}
use Rattle.shapes.specs.declared.Update.{Update}
use Rattle.shapes.specs.declared.Phase.{Phase}
use Rattle.tables.specs.Rows.{word, put_word, put_row}
use Rattle.tables.specs.Names.{node, record_no, phase, update, value}

-- kind (0 leaf, 1 internal), key class, key, phase, whether there is a prev, prev, left, right, the update word's type and record
abbrev pub node_width : ℕ
node_width = 10

abbrev pub node_word : List ℕ → NodeNo → ℕ → ℕ
node_word ns x f = word node_width ns x.0 f

unfoldable pub kind_at : List ℕ → NodeNo → ℕ
kind_at ns x = node_word ns x 0

unfoldable pub is_internal : List ℕ → NodeNo → Bool
is_internal ns x = eqb (kind_at ns x) 1

unfoldable pub rank_at : List ℕ → NodeNo → Rank
rank_at ns x = record { class = node_word ns x 1; word = node_word ns x 2 }

unfoldable pub key_at : List ℕ → NodeNo → ℕ
key_at ns x = value (rank_at ns x)

unfoldable pub phase_at : List ℕ → NodeNo → Phase
phase_at ns x = phase (node_word ns x 3)

unfoldable pub prev_at : List ℕ → NodeNo → Option NodeNo
prev_at ns x = pick (eqb (node_word ns x 4) 0) None (Some (node (node_word ns x 5)))

-- the field of a child
unfoldable pub side : Bool → ℕ
side true = 6
side false = 7

unfoldable pub child_at : List ℕ → NodeNo → Bool → NodeNo
child_at ns x left = node (node_word ns x (side left))

unfoldable pub update_at : List ℕ → NodeNo → Update
update_at ns x = update (node_word ns x 8) (record_no (node_word ns x 9))

-- ---- writing

unfoldable pub set_child : List ℕ → NodeNo → Bool → NodeNo → List ℕ
set_child ns x left c = put_word node_width ns x.0 (side left) c.0

-- one word of the machine, two of the list
unfoldable pub set_update : List ℕ → NodeNo → Update → List ℕ
set_update ns x u = put_word node_width (put_word node_width ns x.0 8 u.mark) x.0 9 u.info.0

-- a new node: no leaf has children; the update word is (FLAG, dummy)
unfoldable pub new_row : ℕ → Rank → Phase → Option NodeNo → NodeNo → NodeNo → List ℕ
new_row kind k q None left right = kind ∷ k.class ∷ k.word ∷ q.0 ∷ 0 ∷ 0 ∷ left.0 ∷ right.0 ∷ 0 ∷ 0 ∷ []
new_row kind k q (Some prev) left right = kind ∷ k.class ∷ k.word ∷ q.0 ∷ 1 ∷ prev.0 ∷ left.0 ∷ right.0 ∷ 0 ∷ 0 ∷ []

unfoldable pub new_node : List ℕ → NodeNo → ℕ → Rank → Phase → Option NodeNo → NodeNo → NodeNo → List ℕ
new_node ns x kind k q prev left right = put_row node_width ns x.0 (new_row kind k q prev left right)
