-- The loop's invariant: the numbers that are left, written from the end reached, give what all of them do, and there is room for them.
use Rattle.std.proofs.Common.{◌≡◌, ◌+◌, ◌≤◌, length, drop}
use Rattle.std.proofs.lemmas.List.Edits.{sets}
use Rattle.schedule.specs.Format.{spelled_all}
use Rattle.writer.proofs.put_numbers.Given as goal

abbrev pub invariant-loop-n : goal.invariant-loop-n
invariant-loop-n l =
    (sets l.buffer l.end (spelled_all (drop l.n-index l.numbers)) ≡ sets l.initial.buffer l.at (spelled_all l.numbers))
    × (l.end + length (spelled_all (drop l.n-index l.numbers)) ≤ length l.buffer)
