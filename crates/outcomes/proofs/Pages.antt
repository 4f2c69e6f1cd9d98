-- Every exported function on the way to a printed line: each has one outcome.
use Rattle.laws.specs.Outcomes.{OneOutcome, OneAnswer, one_answer}
use Rattle.outcomes.specs.Lent.{with}
use Rattle.outcomes.proofs.Lent.{fills}
use Rattle.lines.proofs as lines
use Rattle.counts.proofs as counts

-- `lines`: words put on a page
pub lines-once :
    OneAnswer lines.listed.Reads.Post ×
    OneOutcome lines.put_answer.Reads.Post (λ r x. with r x.1.0) ×
    OneOutcome lines.put_byte.Reads.Post (λ r x. with r x.1.0) ×
    OneOutcome lines.put_next.Reads.Post (λ r x. with r x.1.0) ×
    OneOutcome lines.put_next_signed.Reads.Post (λ r x. with r x.1.0) ×
    OneOutcome lines.put_number.Reads.Post (λ r x. with r x.1.0) ×
    OneOutcome lines.put_text.Reads.Post (λ r x. with r x.1.0) ×
    OneAnswer lines.refusal_number.Reads.Post
lines-once = (one_answer _, fills (λ x. x.1.0) _, fills (λ x. x.1.0) _, fills (λ x. x.1.0) _, fills (λ x. x.1.0) _, fills (λ x. x.1.0) _, fills (λ x. x.1.0) _, one_answer _)

-- `counts`: turn counts
pub counts-once :
    OneAnswer counts.count_of.Reads.Post ×
    OneAnswer counts.counted.Reads.Post ×
    OneAnswer counts.started_counts.Reads.Post ×
    OneAnswer counts.with_count.Reads.Post
counts-once = (one_answer _, one_answer _, one_answer _, one_answer _)
