-- What a command leaves of the lists that are lent.
use Rattle.lending.specs.declared.Lent.{Lent}
use Rattle.tally.specs.declared.Played.{Played}
use Rattle.tally.specs.Playing.{Told, told}

abbrev pub lent_told : Played → Lent → Told
lent_told r l = told r l.nodes.now l.records.now l.pending.now l.found.now
