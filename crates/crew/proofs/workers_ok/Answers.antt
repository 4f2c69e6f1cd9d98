-- `workers_ok` is `every` worker: what `all` answers over their numbers.
use borrow.Author.Rules.{rules}
use borrow.Author.Tests.{tests}
use Rattle.laws.specs.Every.{every_down_below}
use Rattle.tables.specs.World.{world}
use Rattle.sound.specs.Sound.{worker_ok}
use Rattle.crew.proofs.workers_ok.Goals as goal

pub returns : goal.returns
returns c = λ ns fs. every_down_below (worker_ok (world c.args.board ns c.args.records.now c.args.pending.now fs)) c.all.ensures.ran c.rev.ensures.source (λ x b q k. search (rules, tests))
