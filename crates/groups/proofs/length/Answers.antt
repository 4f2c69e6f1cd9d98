-- `groups::length` meets its contract: a number below a power of 128 has no more groups than the power says, and from the one before on no fewer.
use mathlib.Core.Path.{sym, ap}
use native.Mathlib.Omega.{arith}
use lib.ListN.{length}
use Rattle.groups.specs.Format.{most_groups, bits}
use Rattle.groups.specs.Spelling.{spelled-length, spelled-one}
use Rattle.groups.proofs.length.Goals as goal

pub returns-then-n-lt-GROUP : goal.returns-then-n-lt-GROUP
returns-then-n-lt-GROUP c = sym (ap length (spelled-one bits _ c.if-n-lt-GROUP.true))

pub returns-then-n-lt-TWO_GROUPS : goal.returns-then-n-lt-TWO_GROUPS
unfolding most_groups
returns-then-n-lt-TWO_GROUPS c = sym (spelled-length bits 1 c.args.n (omega arith) (omega arith) (omega arith))

pub returns-then-n-lt-THREE_GROUPS : goal.returns-then-n-lt-THREE_GROUPS
unfolding most_groups
returns-then-n-lt-THREE_GROUPS c = sym (spelled-length bits 2 c.args.n (omega arith) (omega arith) (omega arith))

pub returns-then-n-lt-FOUR_GROUPS : goal.returns-then-n-lt-FOUR_GROUPS
unfolding most_groups
returns-then-n-lt-FOUR_GROUPS c = sym (spelled-length bits 3 c.args.n (omega arith) (omega arith) (omega arith))

pub returns : goal.returns
unfolding most_groups
returns c = sym (spelled-length bits 4 c.args.n (omega arith) (omega arith) (omega arith))
