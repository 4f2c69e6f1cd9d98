-- `entries_ok` is `every` entry, from 1: what `all` answers over the numbers before their places.
use borrow.Author.Rules.{rules}
use borrow.Author.Tests.{tests}
use mathlib.Core.Path.{◌≡◌, ap, ◌∙◌}
use Prim.Native.Nat.{ℕ, suc, ◌+◌, ◌%◌, ◌^◌}
use native.Mathlib.Omega.{arith}
use Rattle.laws.specs.Every.{every_down_below, every_same}
use Rattle.tables.specs.Records.{entry_at}
use Rattle.sound.specs.Sound.{entry_ok}
use Rattle.rows.proofs.record_rows.entries_ok.Goals as goal

pub returns : goal.returns
returns c =
    every_down_below (λ i. entry_ok c.args.t (entry_at c.args.rs.now c.args.r ((i + 1) % 2 ^ 32))) c.all.ensures.ran c.rev.ensures.source (λ x b q k. search (rules, tests))
    ∙ every_same _ _ c.args.count (λ k l. let within : (k + 1) % 2 ^ 32 ≡ suc k = omega (arith, c.ranges.count.fits) in ap (λ i. entry_ok c.args.t (entry_at c.args.rs.now c.args.r i)) within)
