-- Opens every definition of the crate, and those below it, for what is computed.
use Rattle.std.specs.Prelude.{ℕ}
use Rattle.sound.specs.Opened.{sound_opened}
use Rattle.steps.specs.Apply.{bumped, taken, top_of, three_nodes, copy_of, taken_record, apply}
use Rattle.steps.specs.Attempt.{room, take_three, take_copy, reaches182, validated, word66, grand66, sibling182, copy_word, word189, leaf_word, held, link_next, link_step}
use Rattle.steps.specs.Decide.{attempt, scan, decide}
use Rattle.steps.specs.Execute.{frozen, old_update, insert_filling, delete_filling, fill_insert, fill_delete, fills, frozen97, state98, freeze103}
use Rattle.steps.specs.Hand.{through}
use Rattle.steps.specs.Help.{counter111, state_cas, state114, freeze_cas, frozen119, cas_child, state125, help_step, help_of, back_to, help_next}
use Rattle.steps.specs.Scan.{bump131, word139, state140, within, leaves, comes_to, reads, child141, left144}
use Rattle.steps.specs.Search.{goes_left, landed, search39}
use Rattle.steps.specs.Turn.{moved, pending_left, found_left, pushed, added, worker_next, outcome_of, settled, settle, lists_of, step_on, step_of, turn_of, started, begin, start_of, insert_of, delete_of, find_of, scan_of, goes_on, run_by, run_of}
use Rattle.steps.specs.Validate.{word52, state53, child57, link_of, link_parent, copy_child, link_child, sibling_left, parent_left, link_left}

unfoldable pub steps_opened : ℕ
unfolding sound_opened bumped taken top_of three_nodes copy_of taken_record apply room take_three take_copy reaches182 validated word66 grand66 sibling182 copy_word word189 leaf_word held link_next link_step attempt scan decide frozen old_update insert_filling delete_filling fill_insert fill_delete fills frozen97 state98 freeze103 through counter111 state_cas state114 freeze_cas frozen119 cas_child state125 help_step help_of back_to help_next bump131 word139 state140 within leaves comes_to reads child141 left144 goes_left landed search39 moved pending_left found_left pushed added worker_next outcome_of settled settle lists_of step_on step_of turn_of started begin start_of insert_of delete_of find_of scan_of goes_on run_by run_of word52 state53 child57 link_of link_parent copy_child link_child sibling_left parent_left link_left
steps_opened = 0
