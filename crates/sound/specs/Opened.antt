-- Opens every definition of the crate, and those below it, for what is computed.
use Rattle.std.specs.Prelude.{ℕ}
use Rattle.tables.specs.Opened.{tables_opened}
use Rattle.sound.specs.Homes.{is_insert, is_delete, is_update, listed, link_home, back_home, attempt_home, is_node, scan_home, in_list}
use Rattle.sound.specs.Sound.{used_node, used_maybe, used_record, word_ok, phase_ok, used_ok, is_absent, root_ok, dummy_ok, rank_ok, prev_ok, children_ok, node_ok, entry_ok, count_ok, record_ok, hand_ok, within_ok, condition_ok, lists_ok, worker_ok, sound_of}

unfoldable pub sound_opened : ℕ
unfolding tables_opened is_insert is_delete is_update listed link_home back_home attempt_home is_node scan_home in_list used_node used_maybe used_record word_ok phase_ok used_ok is_absent root_ok dummy_ok rank_ok prev_ok children_ok node_ok entry_ok count_ok record_ok hand_ok within_ok condition_ok lists_ok worker_ok sound_of
sound_opened = 0
