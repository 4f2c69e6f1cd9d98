-- `dummy_ok` is the definition of its name: what `all` answers over the places of a row.
use borrow.Author.Rules.{rules}
use borrow.Author.Tests.{tests}
use lib.Dec.{eqb}
use lib.ListN.{get_or}
use Rattle.laws.specs.Every.{every_below}
use Rattle.tables.specs.Names.{dummy}
use Rattle.tables.specs.Records.{record_word, record_row, aborted, unfilled}
use Rattle.sound.specs.Sound.{dummy_ok}
use Rattle.rows.proofs.record_rows.dummy_ok.Goals as goal

pub returns : goal.returns
unfolding dummy_ok
returns c = every_below (λ f. eqb (record_word c.args.rs.now dummy f) (get_or (record_row aborted unfilled) f 0)) c.all.ensures.ran (λ x b q k. search (rules, tests))
