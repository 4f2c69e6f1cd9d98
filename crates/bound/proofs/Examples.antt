-- The worked examples of specs/Examples.antt are so.
use Rattle.std.specs.Prelude.{refl}
use Rattle.steps.specs.Opened.{steps_opened}
use Rattle.steps.specs.Play.{fresh}
use Rattle.steps.specs.Kept.{is_refused}
use Rattle.trees.specs.Count.{one, count}
use Rattle.bound.specs.Histories.{asked, after, counted, turns_of, inner_nodes}
use Rattle.bound.specs.Statement.{most_turns}
use Rattle.bound.specs.Examples.{last_outcome, seen, Examples}

pub examples : Examples
unfolding steps_opened fresh is_refused one count asked after counted turns_of inner_nodes most_turns last_outcome seen
examples = record { p6 = refl; p7 = refl; p8 = refl; p9 = refl; tight = refl }
