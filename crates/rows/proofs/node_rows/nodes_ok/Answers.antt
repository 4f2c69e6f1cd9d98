-- `nodes_ok` is `every` node: what `all` answers over their numbers.
use borrow.Author.Rules.{rules}
use borrow.Author.Tests.{tests}
use Rattle.laws.specs.Every.{every_down_below}
use Rattle.sound.specs.Sound.{node_ok}
use Rattle.rows.proofs.node_rows.nodes_ok.Goals as goal

pub returns : goal.returns
returns c = every_down_below (node_ok c.args.t c.args.ns.now) c.all.ensures.ran c.rev.ensures.source (λ x b q k. search (rules, tests))
