-- What the code passes as one value, as the definitions' records of the same name.
use Rattle.tables.specs.World.{Tables, tables}
use Rattle.steps.specs.Scan as scan
use Rattle.hand.specs.declared.looks.Shared.{Shared}
use Rattle.hand.specs.declared.looks.Range.{Range}
use Rattle.hand.specs.declared.looks.Lists.{Lists}

abbrev pub shared_of : Shared → Tables
shared_of t = tables t.totals t.nodes.now t.records.now

abbrev pub range_of : Range → scan.Range
range_of g = record { low = g.low; high = g.high; seq = g.seq }

abbrev pub lists_of : Lists → scan.Lists
lists_of ls = record { top = ls.top; pending = ls.pending; found = ls.found }
