-- Opens every definition of the crate, and those below it, for what is computed.
use Rattle.std.specs.Prelude.{ℕ}
use Rattle.laws.specs.Opened.{laws_opened}
use Rattle.tables.specs.Fresh.{between, sizes_ok, lent_ok, cleared, fresh_nodes, fresh_records, fresh_board, fresh_world, fresh_of}
use Rattle.tables.specs.Names.{value, same_node, same_record, same_update}
use Rattle.tables.specs.NodeWrites.{fixed_at}
use Rattle.tables.specs.Nodes.{kind_at, is_internal, rank_at, key_at, phase_at, prev_at, side, child_at, update_at, set_child, set_update, new_row, new_node}
use Rattle.tables.specs.RecordWrites.{filling_at}
use Rattle.tables.specs.Records.{count_at, state_at, par_at, old_child_at, new_child_at, seq_at, entry_at, set_state, entry_row, record_row, new_record, helpable, fillable, in_progress}
use Rattle.tables.specs.Rows.{word, put_word, put_row}
use Rattle.tables.specs.Versions.{walk_back, read_child, as_parent}
use Rattle.tables.specs.World.{worker_at, spot, pending_at}

unfoldable pub tables_opened : ℕ
unfolding laws_opened between sizes_ok lent_ok cleared fresh_nodes fresh_records fresh_board fresh_world fresh_of value same_node same_record same_update fixed_at kind_at is_internal rank_at key_at phase_at prev_at side child_at update_at set_child set_update new_row new_node filling_at count_at state_at par_at old_child_at new_child_at seq_at entry_at set_state entry_row record_row new_record helpable fillable in_progress word put_word put_row walk_back read_child as_parent worker_at spot pending_at
tables_opened = 0
