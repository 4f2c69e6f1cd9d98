-- What a call comes to, and what a turn decides, by name.
use Rattle.std.specs.Prelude.{Option, Result}
use Rattle.shapes.specs.declared.Answer.{Answer}
use Rattle.shapes.specs.declared.Refusal.{Refusal}
use Rattle.shapes.specs.declared.Step.{Step}

-- a refusal, an answer, or none yet
abbrev pub Outcome : Type 0
Outcome = Result (Option Answer) Refusal

-- none where the tables are crooked
abbrev pub Decision : Type 0
Decision = Option Step
