-- The tables as functions of numbers: what the theory of many turns sees of them.
use Rattle.std.specs.Prelude.{ℕ, Bool, true, false}
use Rattle.laws.specs.Changed.{change, change_on}
use Rattle.shapes.specs.declared.Update.{Update}
use Rattle.shapes.specs.declared.Filling.{Filling}
use Rattle.tables.specs.Names.{node, record_no, fresh_word}
use Rattle.tables.specs.Nodes.{child_at, update_at}
use Rattle.tables.specs.NodeWrites.{Fixed, fixed_at}
use Rattle.tables.specs.Records.{state_at}
use Rattle.tables.specs.RecordWrites.{filling_at}
use Rattle.tables.specs.World.{Tables}

pub record View : Type 0 where
  pub update : ℕ → Update
  pub fixed : ℕ → Fixed
  pub kid : Bool → ℕ → ℕ
  pub state : ℕ → ℕ
  pub filling : ℕ → Filling
  pub nodes : ℕ
  pub records : ℕ
  pub counter : ℕ

unfoldable pub view : Tables → View
view s = record {
  update = λ n. update_at s.nodes (node n);
  fixed = λ n. fixed_at s.nodes (node n);
  kid = λ left n. (child_at s.nodes (node n) left).0;
  state = λ r. state_at s.records (record_no r);
  filling = λ r. filling_at s.records (record_no r);
  nodes = s.totals.nodes;
  records = s.totals.records;
  counter = s.totals.counter;
}

-- ---- the writes

abbrev pub w_update : View → ℕ → Update → View
w_update X x u = record { update = change X.update x u; fixed = X.fixed; kid = X.kid; state = X.state; filling = X.filling; nodes = X.nodes; records = X.records; counter = X.counter }

abbrev pub w_kid : View → Bool → ℕ → ℕ → View
w_kid X left x c = record { update = X.update; fixed = X.fixed; kid = change_on X.kid left x c; state = X.state; filling = X.filling; nodes = X.nodes; records = X.records; counter = X.counter }

abbrev pub w_state : View → ℕ → ℕ → View
w_state X r v = record { update = X.update; fixed = X.fixed; kid = X.kid; state = change X.state r v; filling = X.filling; nodes = X.nodes; records = X.records; counter = X.counter }

abbrev pub w_record : View → ℕ → ℕ → Filling → View
w_record X r v f = record { update = X.update; fixed = X.fixed; kid = X.kid; state = change X.state r v; filling = change X.filling r f; nodes = X.nodes; records = X.records; counter = X.counter }

abbrev pub w_counter : View → ℕ → View
w_counter X c = record { update = X.update; fixed = X.fixed; kid = X.kid; state = X.state; filling = X.filling; nodes = X.nodes; records = X.records; counter = c }

-- a new node, (FLAG, dummy) in its update word
abbrev pub w_node : View → ℕ → Fixed → ℕ → ℕ → View
w_node X n f left right = record { update = change X.update n fresh_word; fixed = change X.fixed n f; kid = change_on (change_on X.kid true n left) false n right; state = X.state; filling = X.filling; nodes = X.nodes; records = X.records; counter = X.counter }

-- so many nodes and records are used
abbrev pub w_used : View → ℕ → ℕ → View
w_used X a b = record { update = X.update; fixed = X.fixed; kid = X.kid; state = X.state; filling = X.filling; nodes = a; records = b; counter = X.counter }
