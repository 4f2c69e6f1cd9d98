-- The worked examples of specs/Examples.antt are so.
use Rattle.std.specs.Prelude.{refl}
use Rattle.steps.specs.Opened.{steps_opened}
use Rattle.steps.specs.Play.{fresh}
use Rattle.kept.specs.Touched.{value_at}
use Rattle.looks.specs.Looked.{word_of, child_of, link_looks, help_looks, scans_left, place_looks, looked_at}
use Rattle.looks.specs.Examples.{base, elsewhere, filled, three, Examples}

pub examples : Examples
unfolding steps_opened fresh base elsewhere filled three value_at word_of child_of link_looks help_looks scans_left place_looks looked_at
examples = record { looked = refl; same = refl; at_leaf = refl; at_other = refl; beyond = refl; beyond_undecided = refl; beyond_trying = refl; copy = refl; copy_differs = refl; copy_changed = refl }
