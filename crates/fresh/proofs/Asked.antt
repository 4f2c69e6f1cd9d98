-- What the tests of sizes and of lent tables say, for the writes behind them.
use Prim.Native.Nat.{ℕ, ◌*◌, ◌≤◌}
use mathlib.Core.Path.{◌≡◌}
use mathlib.Core.Bool.{true, ◌&&◌}
use lib.ListN.{length}
use Rattle.laws.specs.Tests.{Says, says_le, says_and, says_none, says_more}
use Rattle.tables.specs.World.{World}
use Rattle.tables.specs.Fresh.{between, sizes_ok, lent_ok}

in_range : (a x b : ℕ) → Says (between a x b) ((a ≤ x) × (x ≤ b))
unfolding between
in_range a x b = says_and (says_le a x) (says_le x b)

says_sizes : (n m p : ℕ) → Says (sizes_ok n m p) (((8 ≤ n) × (n ≤ 1024)) × (((2 ≤ m) × (m ≤ 512)) × (((1 ≤ p) × (p ≤ 8)) × Unit {0})))
unfolding sizes_ok
says_sizes n m p = says_more _ (in_range 8 n 1024) (says_more _ (in_range 2 m 512) (says_more _ (in_range 1 p 8) says_none))

says-lent : (n m p : ℕ) (s : World) → Says (lent_ok n m p s) ((n * 10 ≤ length s.nodes) × ((m * 22 ≤ length s.records) × ((p * n ≤ length s.pending) × ((p * n ≤ length s.found) × Unit {0}))))
unfolding lent_ok
says-lent n m p s = says_more _ (says_le _ _) (says_more _ (says_le _ _) (says_more _ (says_le _ _) (says_more _ (says_le _ _) says_none)))

module _ (n m p : ℕ) (s : World) (e : (sizes_ok n m p && lent_ok n m p s) ≡ true) where
  pub few_workers : p ≤ 8
  few_workers = ((says_and (says_sizes n m p) (says-lent n m p s)).out e).0.1.1.0.1

  pub long_lists : (n * 10 ≤ length s.nodes) × ((m * 22 ≤ length s.records) × ((p * n ≤ length s.pending) × (p * n ≤ length s.found)))
  long_lists = let l = ((says_and (says_sizes n m p) (says-lent n m p s)).out e).1 in (l.0, (l.1.0, (l.1.1.0, l.1.1.1.0)))
