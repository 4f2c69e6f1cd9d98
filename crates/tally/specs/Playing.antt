-- 01, 'The schedule': what each command does to the tables and to the turn counts, and the line that it prints.
use Rattle.std.specs.Prelude.{ℕ, ◌+◌, ◌-◌, ◌^◌, List, get_or, set, ℤ, leb, None, Some, Ok, Err}
use Rattle.laws.specs.Choice.{pick}
use Rattle.shapes.specs.declared.Board.{Board}
use Rattle.shapes.specs.Outcomes.{Outcome}
use Rattle.tables.specs.Names.{key_of}
use Rattle.tables.specs.World.{World}
use Rattle.tables.specs.Fresh.{Left}
use Rattle.steps.specs.Turn.{insert_of, delete_of, find_of, scan_of, run_of, Ran}
use Rattle.schedule.specs.declared.Command.{Command}
use Rattle.schedule.specs.declared.Command.TheVariants.{Insert, Delete, Find, Scan, Turns}
use Rattle.lines.specs.declared.Line.{Line}
use Rattle.lines.specs.declared.Line.TheVariants.{Quiet, Answered, Refused}
use Rattle.tally.specs.declared.Played.{Played}

-- all that lasts from command to command: the tables, and for each worker the accepted turns of its operation
pub record Evening : Type 0 where
  pub world : World
  pub turns : List ℕ

abbrev pub evening : World → List ℕ → Evening
evening s turns = record { world = s; turns = turns }

-- what a command leaves, and its line
pub record Told : Type 0 where
  pub evening : Evening
  pub line : Line

abbrev pub played : Board → List ℕ → Line → Played
played b counts line = record { board = b; turns = counts; line = line }

-- what the code answers, with the lists as it leaves them
abbrev pub told : Played → List ℕ → List ℕ → List ℕ → List ℤ → Told
told r ns rs ps fs = record {
  evening = record { world = record { board = r.board; nodes = ns; records = rs; pending = ps; found = fs }; turns = r.turns };
  line = r.line;
}

-- ---- counts

-- the greatest count that is kept; `exact` says that no schedule comes to it
abbrev pub most_turns : ℕ
most_turns = 2 ^ 64 - 1

unfoldable pub counted : ℕ → ℕ → ℕ
counted before more = pick (leb (before + more) most_turns) (before + more) most_turns

-- a start begins at 0; one that is refused changes nothing
unfoldable pub started_counts : Outcome → ℕ → List ℕ → List ℕ
started_counts (Ok None) w counts = set counts w 0
started_counts (Ok (Some a)) w counts = counts
started_counts (Err r) w counts = counts

-- ---- lines

-- "one line per answer or refusal"
unfoldable pub line_of : ℕ → ℕ → Outcome → ℕ → Line
line_of number w (Ok None) turns = Quiet
line_of number w (Ok (Some a)) turns = Answered number w a turns
line_of number w (Err r) turns = Refused number w r

-- ---- commands

unfoldable pub begun : ℕ → ℕ → List ℕ → Left → Told
begun number w counts d = record {
  evening = record { world = d.world; turns = started_counts d.outcome w counts };
  line = line_of number w d.outcome 0;
}

-- "the turns the operation took": those of this command, added to those before it
unfoldable pub ran : (ℕ → ℕ → ℕ) → ℕ → ℕ → List ℕ → Ran → Told
ran add number w counts r =
    let all = add (get_or counts w 0) r.turns in
    record {
      evening = record { world = r.world; turns = set counts w all };
      line = line_of number w r.outcome all;
    }

-- by a way to add turns
unfoldable pub play_by : (ℕ → ℕ → ℕ) → ℕ → Command → Evening → Told
play_by add number (Insert w k) e = begun number w e.turns (insert_of e.world w (key_of k))
play_by add number (Delete w k) e = begun number w e.turns (delete_of e.world w (key_of k))
play_by add number (Find w k) e = begun number w e.turns (find_of e.world w (key_of k))
play_by add number (Scan w a b) e = begun number w e.turns (scan_of e.world w (key_of a) (key_of b))
play_by add number (Turns w n) e = ran add number w e.turns (run_of n e.world w)

abbrev pub play_of : ℕ → Command → Evening → Told
play_of = play_by counted
