-- What a reading says of the commands behind an opening. That the bytes that read as a schedule are exactly those that the format says
-- it is: proofs/Whole.antt.
use Rattle.std.specs.Prelude.{◌≡◌, List, ℕ}
use Rattle.schedule.specs.Format.{all_bytes, EachProper}
use Rattle.schedule.specs.declared.Command.{Command}

-- what was read are the bytes of proper commands
pub record Relisted (s : List ℕ) (cs : List Command) : Type 0 where
  pub bytes : s ≡ all_bytes cs
  pub each : EachProper cs
