-- `records_ok` is `every` record from 1: what `all` answers over their numbers.
use borrow.Author.Rules.{rules}
use borrow.Author.Tests.{tests}
use Rattle.laws.specs.Every.{every_down_from_one}
use Rattle.tables.specs.World.{tables}
use Rattle.sound.specs.Sound.{record_ok}
use Rattle.rows.proofs.record_rows.records_ok.Goals as goal

pub returns : goal.returns
returns c = every_down_from_one (record_ok (tables c.args.t c.args.ns.now c.args.rs.now)) c.all.ensures.ran c.rev.ensures.source (λ x b q k. search (rules, tests))
