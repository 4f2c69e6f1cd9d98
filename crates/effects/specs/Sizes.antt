-- What an effect asks of the totals, so that no sum wraps, and an effect on any tables.
use Rattle.std.specs.Prelude.{◌≤◌, ◌≡◌, [], ◌∷◌, Bool, leb}
use Rattle.std.proofs.Common.{arith}
use Rattle.laws.specs.Choice.{pick, pick_true}
use Rattle.laws.specs.Tests.{Says, says_le, says_as, says_none, says_more, all}
use Rattle.shapes.specs.Numbers.{most_n, most_m, last_phase}
use Rattle.shapes.specs.declared.Totals.{Totals}
use Rattle.shapes.specs.declared.Effect.{Effect}
use Rattle.tables.specs.World.{Tables}
use Rattle.sound.specs.Meaning.{SizesSound, UsedSound}
use Rattle.steps.specs.Apply.{apply}

-- 01, 'Sizes': nodes to 1,024, records to 512, Counter to 65,535
pub record WithinSizes (t : Totals) : Type 0 where
  pub nodes : t.nodes ≤ most_n
  pub records : t.records ≤ most_m
  pub counter : t.counter ≤ last_phase

-- totals of sound tables are within the sizes
pub sound-within_sizes : (t : Totals) → SizesSound t.n t.m t.p → UsedSound t → WithinSizes t
sound-within_sizes t sizes used = record { nodes = omega arith; records = omega arith; counter = used.counter }

-- the test, and its meaning
unfoldable pub within : Totals → Bool
within t = all (leb t.nodes most_n ∷ leb t.records most_m ∷ leb t.counter last_phase ∷ [])

pub says-within : (t : Totals) → Says (within t) (WithinSizes t)
unfolding within
says-within t = says_as
    (says_more _ (says_le _ _) (says_more _ (says_le _ _) (says_more _ (says_le _ _) says_none)))
    (λ h. record { nodes = h.0; records = h.1.0; counter = h.1.1.0 })
    (λ r. (r.nodes, (r.records, (r.counter, tt))))

-- an effect on any tables: totals beyond the sizes leave all as before
unfoldable pub apply_within : Effect → Tables → Tables
apply_within e s = pick (within s.totals) (apply e s) s

pub apply-within_sizes : (e : Effect) (s : Tables) → WithinSizes s.totals → apply_within e s ≡ apply e s
unfolding apply_within
apply-within_sizes e s h = pick_true _ _ _ ((says-within _).back h)
