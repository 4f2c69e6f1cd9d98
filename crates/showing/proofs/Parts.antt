-- What reads at the front of some bytes stands within them, and so does a line on its page.
use Rattle.std.proofs.Common.{◌≡◌, ℕ, ◌≤◌, List, length, sym, Some}
use Rattle.schedule.specs.declared.Command.{Command}
use Rattle.lending.specs.declared.Sizes.{Sizes}
use Rattle.schedule.specs.Reading.{command_at, opening_at}
use Rattle.schedule.specs.Numbers.{most_bytes}
use Rattle.schedule.specs.Openings.{opening_opens}
use Rattle.schedule.proofs.Standing.{command_stands}
use Rattle.lines.specs.Page.{page, spelt, spelt-counts}

module _ (s : List ℕ) (c : Command) (taken : ℕ) (reads : Some (c, taken) ≡ command_at s) where
  pub command_some : 1 ≤ taken
  command_some = (command_stands s c taken (sym reads)).some

  pub command_there : taken ≤ length s
  command_there = (command_stands s c taken (sym reads)).there

module _ (s : List ℕ) (o : Sizes) (start : ℕ) (reads : Some (o, start) ≡ opening_at s) where
  pub opening_there : start ≤ length s
  opening_there = (opening_opens s o.n o.m o.p start (sym reads)).there

  pub file_short : length s ≤ most_bytes
  file_short = (opening_opens s o.n o.m o.p start (sym reads)).few

pub spelt_within : (size : ℕ) (bytes text was : List ℕ) → page size bytes ≡ spelt text was → size ≤ length bytes
spelt_within size bytes text was e = (spelt-counts size bytes text was e).0
