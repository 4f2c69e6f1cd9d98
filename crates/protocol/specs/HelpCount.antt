-- Each turn of HELP leaves it one turn less: twelve at most from line 111 on.
use Rattle.std.specs.Prelude.{ℕ, suc, ◌+◌, ◌*◌, ◌-◌, ◌≤◌, ◌<◌, ltb, Option, None, Some}
use native.Mathlib.Omega.{arith}
use borrow.Author.Tests.{ltb-true}
use Rattle.laws.specs.Choice.{fork}
use Rattle.shapes.specs.declared.RecordNo.{RecordNo}
use Rattle.shapes.specs.declared.HelpStep.{HelpStep}
use Rattle.shapes.specs.declared.HelpStep.TheVariants.{Counter111, Abort112, Try113, State114, Freeze117, Frozen119, Child123, Commit124, State125, Abort126, State127}
use Rattle.shapes.specs.declared.HelpMove.{HelpMove}
use Rattle.shapes.specs.declared.HelpMove.TheVariants as help
use Rattle.tables.specs.Records.{count_at}
use Rattle.tables.specs.World.{Tables}
use Rattle.steps.specs.Help.{counter111, state114, frozen119, state125, help_step, help_of}
use Rattle.protocol.specs.ScanPlaces.{help_left}

-- what a move leaves, of so many turns before it
abbrev pub Falls : ℕ → Option HelpMove → Type 0
Falls n None = Unit {0}
Falls n (Some (help.Goes e i b)) = suc (help_left b i) ≤ n
Falls n (Some (help.Done done)) = 1 ≤ n

module _ (s : Tables) (r : RecordNo) (i : ℕ) (most : count_at s.records r ≤ 4) where
  falls119 : Falls ((4 - i) * 2 + 4) (frozen119 s.nodes s.records r i)
  unfolding frozen119 help_left
  falls119 = fork (Falls ((4 - i) * 2 + 4)) _
      (λ _. fork (Falls ((4 - i) * 2 + 4)) (ltb i (count_at s.records r)) (λ l. let below : i < count_at s.records r = ltb-true _ _ l in omega (arith, most)) (λ _. omega arith))
      (λ _. omega arith)

  step_falls : (b : HelpStep) → Falls (help_left b i) (help_step s r i b)
  unfolding help_step help_left counter111 state114 state125
  step_falls Counter111 = fork (Falls 12) _ (λ _. omega arith) (λ _. omega arith)
  step_falls Abort112 = omega arith
  step_falls Try113 = omega arith
  step_falls State114 = fork (Falls 10) _ (λ _. omega arith) (λ _. omega arith)
  step_falls Freeze117 = omega arith
  step_falls Frozen119 = falls119
  step_falls Child123 = omega arith
  step_falls Commit124 = omega arith
  step_falls State125 = fork (Falls 3) _ (λ _. omega arith) (λ _. omega arith)
  step_falls Abort126 = omega arith
  step_falls State127 = omega arith

  pub help_falls : (b : HelpStep) → Falls (help_left b i) (help_of s r i b)
  unfolding help_of
  help_falls b = fork (Falls (help_left b i)) _ (λ _. step_falls b) (λ _. tt)
