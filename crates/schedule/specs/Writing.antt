-- What a writing leaves (01, 'Refusal numbers', 8 and 2): the bytes at their place, or everything as before.
use Rattle.std.specs.Prelude.{List, [], ◌∷◌, Bool, ◌&&◌, ℕ, ◌+◌, leb, length, Ok, Err}
use Rattle.std.proofs.lemmas.List.Edits.{sets}
use Rattle.laws.specs.Choice.{pick}
use Rattle.tables.specs.Fresh.{sizes_ok}
use Rattle.schedule.specs.Answers.{Writing}
use Rattle.schedule.specs.Numbers.{most_bytes}
use Rattle.schedule.specs.Format.{Schedule, command_bytes, opening_bytes, accepted}
use Rattle.schedule.specs.declared.Command.{Command}
use Rattle.schedule.specs.declared.Refusal.TheVariants.{File, Size}

-- all that a writing leaves: its answer and the buffer
pub record Left : Type 0 where
  pub answer : Writing
  pub buffer : List ℕ

abbrev pub left : Writing → List ℕ → Left
left answer buffer = record { answer = answer; buffer = buffer }

-- "a writer gives 8 before 2": 8 for what has no bytes or "an end past byte 65,536", 2 for "a buffer too short for what is to be written"
unfoldable pub entered : Bool → List ℕ → List ℕ → ℕ → Left
entered fine bytes buffer at =
    pick (fine && leb (at + length bytes) most_bytes)
    (pick (leb (at + length bytes) (length buffer)) (left (Ok (at + length bytes)) (sets buffer at bytes)) (left (Err Size) buffer))
    (left (Err File) buffer)

-- "sizes out of range"
unfoldable pub write_opening : ℕ → ℕ → ℕ → List ℕ → ℕ → Left
write_opening n m p buffer at = entered (sizes_ok n m p) (opening_bytes n m p) buffer at

-- "n of 0"
unfoldable pub write_command : Command → List ℕ → ℕ → Left
write_command c buffer at = entered (accepted c) (command_bytes c) buffer at

-- ---- a whole schedule: each behind the one before it, until one is refused

unfoldable pub on_answer : Writing → List ℕ → (List ℕ → ℕ → Left) → Left
on_answer (Ok end) buffer next = next buffer end
on_answer (Err refusal) buffer next = left (Err refusal) buffer

unfoldable pub on_end : Left → (List ℕ → ℕ → Left) → Left
on_end l next = on_answer l.answer l.buffer next

unfoldable pub write_commands : List Command → List ℕ → ℕ → Left
write_commands [] buffer at = left (Ok at) buffer
write_commands (c ∷ cs) buffer at = on_end (write_command c buffer at) (λ after end. write_commands cs after end)

unfoldable pub write_schedule : Schedule → List ℕ → Left
write_schedule x buffer = on_end (write_opening x.n x.m x.p buffer 0) (λ after end. write_commands x.commands after end)
