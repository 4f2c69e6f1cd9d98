-- Every exported function on the way to a turn, a run and a start: each has one outcome.
use Rattle.laws.specs.Outcomes.{OneOutcome, OneAnswer, one_answer}
use Rattle.outcomes.specs.Lent.{exit_named}
use Rattle.outcomes.proofs.Lent.{writes, reads, runs}
use Rattle.hand.proofs as hand
use Rattle.seek.proofs as seek
use Rattle.taking.proofs as taking
use Rattle.attempts.proofs as attempts
use Rattle.links.proofs as links
use Rattle.execute.proofs as execute
use Rattle.help.proofs as help
use Rattle.sweep.proofs as sweep
use Rattle.scanning.proofs as scanning
use Rattle.deciding.proofs as deciding
use Rattle.turning.proofs as turning
use Rattle.running.proofs as running
use Rattle.beginning.proofs as beginning

-- `hand`: what a worker has in hand
pub hand_once :
    OneAnswer hand.at_node.Reads.Post ×
    OneAnswer hand.at_root.Reads.Post ×
    OneAnswer hand.at_word.Reads.Post ×
    OneAnswer hand.decide_to.Reads.Post ×
    OneAnswer hand.down_to.Reads.Post ×
    OneAnswer hand.fresh_word.Reads.Post ×
    OneAnswer hand.go_to.Reads.Post ×
    OneAnswer hand.help_then_retry.Reads.Post ×
    OneAnswer hand.holding_record.Reads.Post ×
    OneAnswer hand.is_frozen.Reads.Post ×
    OneAnswer hand.retry.Reads.Post ×
    OneAnswer hand.say.Reads.Post ×
    OneAnswer hand.with_gpup.Reads.Post ×
    OneAnswer hand.with_i.Reads.Post ×
    OneAnswer hand.with_leaf.Reads.Post ×
    OneAnswer hand.with_lup.Reads.Post ×
    OneAnswer hand.with_pup.Reads.Post ×
    OneAnswer hand.with_sibling.Reads.Post ×
    OneAnswer hand.with_sup.Reads.Post ×
    OneAnswer hand.with_taken.Reads.Post ×
    OneAnswer hand.with_up.Reads.Post
hand_once = (one_answer _, one_answer _, one_answer _, one_answer _, one_answer _, one_answer _, one_answer _, one_answer _, one_answer _, one_answer _, one_answer _, one_answer _, one_answer _, one_answer _, one_answer _, one_answer _, one_answer _, one_answer _, one_answer _, one_answer _, one_answer _)

-- `seek`: SEARCH and VALIDATELINK
pub seek-once :
    OneAnswer seek.link_child.Reads.Post ×
    OneAnswer seek.link_left.Reads.Post ×
    OneAnswer seek.link_of.Reads.Post ×
    OneAnswer seek.link_parent.Reads.Post ×
    OneAnswer seek.search39.Reads.Post ×
    OneAnswer seek.sibling_left.Reads.Post
seek-once = (one_answer _, one_answer _, one_answer _, one_answer _, one_answer _, one_answer _)

-- `taking`: nodes and a record taken
pub taking-once :
    OneAnswer taking.copy_word.Reads.Post ×
    OneAnswer taking.take_copy.Reads.Post ×
    OneAnswer taking.take_three.Reads.Post
taking-once = (one_answer _, one_answer _, one_answer _)

-- `attempts`: the words that an attempt reads
pub attempts-once :
    OneAnswer attempts.grand66.Reads.Post ×
    OneAnswer attempts.leaf_word.Reads.Post ×
    OneAnswer attempts.word189.Reads.Post ×
    OneAnswer attempts.word66.Reads.Post
attempts-once = (one_answer _, one_answer _, one_answer _, one_answer _)

-- `links`: the links that an attempt validates
pub links-once :
    OneAnswer links.link_step.Reads.Post ×
    OneAnswer links.sibling182.Reads.Post
links-once = (one_answer _, one_answer _)

-- `execute`: EXECUTE
pub execute-once :
    OneAnswer execute.freeze103.Reads.Post ×
    OneAnswer execute.frozen97.Reads.Post ×
    OneAnswer execute.state98.Reads.Post
execute-once = (one_answer _, one_answer _, one_answer _)

-- `help`: HELP
pub help-once :
    OneAnswer help.help_next.Reads.Post ×
    OneAnswer help.help_of.Reads.Post
help-once = (one_answer _, one_answer _)

-- `sweep`: SCANHELPER
pub sweep-once :
    OneAnswer sweep.bump131.Reads.Post ×
    OneAnswer sweep.child141.Reads.Post ×
    OneAnswer sweep.left144.Reads.Post ×
    OneAnswer sweep.state140.Reads.Post ×
    OneAnswer sweep.word139.Reads.Post
sweep-once = (one_answer _, one_answer _, one_answer _, one_answer _, one_answer _)

-- `scanning`: a scan's turn
pub scanning-once :
    OneAnswer scanning.decide_help.Reads.Post ×
    OneAnswer scanning.decide_scan.Reads.Post
scanning-once = (one_answer _, one_answer _)

-- `deciding`: any turn's decision
pub deciding_once : OneAnswer deciding.decide.Reads.Post
deciding_once = one_answer _

-- `turning`: one turn
pub turning_once : OneOutcome turning.step.Reads.Post (λ r x. exit_named r x.1.1.0)
turning_once = writes (λ a. a.1.1.0) (λ x. x.1.1.0) _

-- `running`: turns in a row
pub running_once : OneOutcome running.steps.Reads.Post (λ r x. exit_named r x.1.1.1.0)
running_once = runs (λ a. a.1.1.1.0) (λ x. x.1.1.1.0) _

-- `beginning`: a start of any operation
pub beginning_once : OneAnswer beginning.start.Reads.Post
beginning_once = reads (λ a. a.1.1.1.0) _
