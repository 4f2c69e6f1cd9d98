-- The measure is what is left of the number.
use Rattle.pack.proofs.+put_groups.Given as goal

abbrev pub decreases-put_groups : goal.decreases-put_groups
decreases-put_groups l = l.n
