-- 01, 'Evenings worked through': P1 to P12 under a single statement. P1 to P10 are computed from the machine's definitions, P11
-- and P12 from the format's.
use Rattle.groups.specs.Examples.{P11, P12, examples}
use Rattle.steps.specs.Evenings.{Evenings, evenings}

pub record WorkedThrough : Type 0 where
  -- p1 to p10, with answers, turns, nodes used, records used and Counter
  pub machine : Evenings
  pub p11 : P11
  pub p12 : P12

pub worked_through : WorkedThrough
worked_through = record { machine = evenings; p11 = examples.p11; p12 = examples.p12 }
