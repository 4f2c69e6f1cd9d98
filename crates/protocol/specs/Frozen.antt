-- The frozen test (lines 90 and 91): a word that fails it is final, and the record of one that passes it may be helped.
use Rattle.std.specs.Prelude.{◌≤◌, ◌<◌, ◌≡◌, eqb}
use Rattle.std.proofs.Math.Bool.{true, false}
use Rattle.std.proofs.Common.{arith}
use borrow.Author.Tests.{ltb-true, ltb-false}
use Rattle.laws.specs.Choice.{fork}
use Rattle.shapes.specs.declared.Update.{Update}
use Rattle.tables.specs.Names.{flag}
use Rattle.tables.specs.Records.{committed, aborted, state_at, in_progress}
use Rattle.tables.specs.World.{Tables}
use Rattle.steps.specs.Execute.{frozen}
use Rattle.views.specs.View.{view}
use Rattle.protocol.specs.Ghost.{Final}

module _ (s : Tables) (u : Update) where
  pub unfrozen_final : frozen s.records u ≡ false → Final (view s) u
  unfolding frozen in_progress view
  unfrozen_final = fork (λ b. b ≡ false → committed ≤ state_at s.records u.info) (eqb u.mark flag)
      (λ _ e. ltb-false (state_at s.records u.info) committed e)
      (λ _ e. let l : aborted ≤ state_at s.records u.info = ltb-false (state_at s.records u.info) aborted e in omega arith)

  pub frozen_open : frozen s.records u ≡ true → (view s).state u.info.0 < aborted
  unfolding frozen in_progress view
  frozen_open = fork (λ b. b ≡ true → state_at s.records u.info < aborted) (eqb u.mark flag)
      (λ _ e. let l : state_at s.records u.info < committed = ltb-true (state_at s.records u.info) committed e in omega arith)
      (λ _ e. ltb-true (state_at s.records u.info) aborted e)
