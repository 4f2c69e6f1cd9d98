-- `pending_ok` is `every` pending node: what `all` answers over their places.
use borrow.Author.Rules.{rules}
use borrow.Author.Tests.{tests}
use lib.ListN.{get_or}
use Rattle.laws.specs.Every.{every_down_below}
use Rattle.tables.specs.Names.{node}
use Rattle.tables.specs.World.{spot}
use Rattle.sound.specs.Sound.{used_node}
use Rattle.crew.proofs.lists.pending_ok.Goals as goal

pub returns : goal.returns
returns c = every_down_below (λ i. used_node c.args.t (node (get_or c.args.pending.now (spot c.args.t c.args.w i) 0))) c.all.ensures.ran c.rev.ensures.source (λ x b q k. search (rules, tests))
