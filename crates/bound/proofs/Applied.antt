-- The bound at work: the scan of 17 turns, where one turn of it is still to come.
use Rattle.std.specs.Prelude.{ℕ, ◌≡◌, refl, List, [], ◌∷◌}
use Rattle.std.proofs.Common.{arith}
use Rattle.shapes.specs.declared.Place.TheVariants.{Child141}
use Rattle.steps.specs.Opened.{steps_opened}
use Rattle.steps.specs.Play.{fresh, lent}
use Rattle.steps.specs.Kept.{is_refused}
use Rattle.bound.specs.Histories.{Call, delete, asked, after}
use Rattle.bound.specs.Statement.{HasPhase, NeverWaits, Bound}
use Rattle.bound.specs.Examples.{key, turns, inserts5, scans}
use Rattle.bound.proofs.Induction.{bound}

abbrev before : List Call
before = turns 14 1 (turns 22 0 (delete 0 (key 5) ∷ inserts5 18 (scans 2 [])))

-- it stands at the Root in phase 0, after HELP, and reads a child next
pub at-root : HasPhase (after (fresh 16 4) before) 1 0
unfolding steps_opened fresh is_refused asked after
at-root = record { low = key 0; high = key 9; place = Child141; holds = refl; past = λ e. let z : ◌≡◌ {A = ℕ} 0 1 = cc in absurd (omega arith); phase = refl }

pub applied : NeverWaits (fresh 16 4) before 1 0
unfolding Bound fresh steps_opened
applied = bound 16 4 3 (lent 16 4) refl before 1 0 (omega arith) at-root
