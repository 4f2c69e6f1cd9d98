-- Every exported function over tables, total on any: each has one outcome. `Reads.Post` is its contract, as the check reads it off the code.
use Rattle.std.specs.Prelude.{refl, []}
use Rattle.std.proofs.Common.{sym, ◌∙◌}
use Rattle.std.specs.declared.clone.Clone as Clone
use denote.RattleType.{RattleType}
use denote.Param.Laws.{Laws, IsCopy}
use mir.Syntax.{Dict}
use Rattle.laws.specs.Outcomes.{OneOutcome, one_outcome, OneAnswer, one_answer, one-answer-at}
use Rattle.tables.specs.World.{tables}
use Rattle.tally.specs.Whole.{lent}
use Rattle.outcomes.specs.Lent.{with_both}
use Rattle.outcomes.proofs.Lent.{puts}
use Rattle.lending.proofs as lending
use Rattle.lending.specs.Lent.{shown_world}
use Rattle.words.proofs as words
use Rattle.nodes.proofs as nodes
use Rattle.records.proofs as records
use Rattle.fields.proofs as fields
use Rattle.boards.proofs as boards
use Rattle.effects.proofs as effects
use Rattle.rows.proofs as rows
use Rattle.homes.proofs as homes
use Rattle.crew.proofs as crew

-- `words`: one place of a list, of whatever can be copied
pub places-once : (T : RattleType) (laws : Laws T) (copy : IsCopy T) (clone : Clone.Ghosts T.Denot) (methods : Dict) →
    OneAnswer (words.get.Reads.Post T laws copy clone methods) ×
    OneOutcome (words.put.Reads.Post T laws copy clone methods) (λ r x. x.0.now)
places-once T laws copy clone methods = (one_answer _, puts (λ x. x.0) _)

-- a word, a row
pub words-once :
    OneOutcome words.new_node.Reads.Post (λ r x. x.0.now) ×
    OneOutcome words.new_record.Reads.Post (λ r x. x.0.now) ×
    OneOutcome words.put_word.Reads.Post (λ r x. x.0.now) ×
    OneAnswer words.word.Reads.Post
words-once = (puts (λ x. x.0) _, puts (λ x. x.0) _, puts (λ x. x.0) _, one_answer _)

-- `nodes`: a node's fields
pub nodes-once :
    OneAnswer nodes.child_at.Reads.Post ×
    OneAnswer nodes.is_internal.Reads.Post ×
    OneAnswer nodes.key_at.Reads.Post ×
    OneAnswer nodes.key_value.Reads.Post ×
    OneAnswer nodes.kind_at.Reads.Post ×
    OneAnswer nodes.phase_at.Reads.Post ×
    OneAnswer nodes.prev_at.Reads.Post ×
    OneAnswer nodes.rank_at.Reads.Post ×
    OneAnswer nodes.same_update.Reads.Post ×
    OneOutcome nodes.set_child.Reads.Post (λ r x. x.0.now) ×
    OneOutcome nodes.set_update.Reads.Post (λ r x. x.0.now) ×
    OneAnswer nodes.update_at.Reads.Post
nodes-once = (one_answer _, one_answer _, one_answer _, one_answer _, one_answer _, one_answer _, one_answer _, one_answer _, one_answer _, puts (λ x. x.0) _, puts (λ x. x.0) _, one_answer _)

-- `records`: a record's fields
pub records-once :
    OneAnswer records.count_at.Reads.Post ×
    OneAnswer records.entry_at.Reads.Post ×
    OneAnswer records.fillable.Reads.Post ×
    OneAnswer records.helpable.Reads.Post ×
    OneAnswer records.in_progress.Reads.Post ×
    OneAnswer records.new_child_at.Reads.Post ×
    OneAnswer records.old_child_at.Reads.Post ×
    OneAnswer records.par_at.Reads.Post ×
    OneAnswer records.seq_at.Reads.Post ×
    OneOutcome records.set_state.Reads.Post (λ r x. x.0.now) ×
    OneAnswer records.state_at.Reads.Post ×
    OneAnswer records.unfilled.Reads.Post
records-once = (one_answer _, one_answer _, one_answer _, one_answer _, one_answer _, one_answer _, one_answer _, one_answer _, one_answer _, puts (λ x. x.0) _, one_answer _, one_answer _)

-- `lending`: what is shown of what is lent, with whatever board
pub lending_once : OneOutcome lending.Lent.shown.Reads.Post (λ r x. shown_world lent.board r)
lending_once k a r q x y this that = this lent.board ∙ sym (that lent.board)

-- `fields`: READCHILD, keys, sizes, a worker that holds nothing
pub fields-once :
    OneAnswer fields.as_parent.Reads.Post ×
    OneAnswer fields.between.Reads.Post ×
    OneAnswer fields.blank.Reads.Post ×
    OneAnswer fields.idle.Reads.Post ×
    OneAnswer fields.key_of.Reads.Post ×
    OneAnswer fields.lent_ok.Reads.Post ×
    OneAnswer fields.number_of.Reads.Post ×
    OneAnswer fields.read_child.Reads.Post ×
    OneAnswer fields.sizes_ok.Reads.Post
fields-once = (one_answer _, one_answer _, one_answer _, one_answer _, one_answer _, one-answer-at lent.board _, one_answer _, one_answer _, one_answer _)

-- `boards`: a worker of the board
pub boards-once :
    OneAnswer boards.refuse.Reads.Post ×
    OneAnswer boards.with_worker.Reads.Post ×
    OneAnswer boards.worker_of.Reads.Post
boards-once = (one_answer _, one_answer _, one_answer _)

-- `effects`: shared words written
pub effects-once :
    OneOutcome effects.apply.Reads.Post (λ r x. with_both r x.1.1.0 x.1.1.1.0) ×
    OneAnswer effects.within.Reads.Post
effects-once = (one_outcome (λ r x. with_both r x.1.1.0 x.1.1.1.0) (λ a o. tables o.0 o.1 o.2) (λ d. (d.totals, d.nodes, d.records)) (λ a o. refl) _, one_answer _)

-- `rows`: clauses on nodes and records
pub rows-once :
    OneAnswer rows.dummy_ok.Reads.Post ×
    OneAnswer rows.nodes_ok.Reads.Post ×
    OneAnswer rows.phase_ok.Reads.Post ×
    OneAnswer rows.records_ok.Reads.Post ×
    OneAnswer rows.root_ok.Reads.Post ×
    OneAnswer rows.used_maybe.Reads.Post ×
    OneAnswer rows.used_node.Reads.Post ×
    OneAnswer rows.used_ok.Reads.Post ×
    OneAnswer rows.used_record.Reads.Post ×
    OneAnswer rows.word_ok.Reads.Post
rows-once = (one_answer _, one_answer _, one_answer _, one_answer _, one_answer _, one_answer _, one_answer _, one_answer _, one_answer _, one_answer _)

-- `homes`: which places are whose
pub homes-once :
    OneAnswer homes.attempt_home.Reads.Post ×
    OneAnswer homes.in_list.Reads.Post ×
    OneAnswer homes.listed.Reads.Post ×
    OneAnswer homes.scan_home.Reads.Post
homes-once = (one_answer _, one_answer _, one_answer _, one_answer _)

-- `crew`: clauses on workers
pub crew_once : OneAnswer crew.workers_ok.Reads.Post
crew_once = λ k a r q x y this that. this [] [] ∙ sym (that [] [])
