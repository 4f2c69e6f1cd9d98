-- What the program prints for a schedule: one definition, from the bytes that it reads to the bytes that it writes.
use Rattle.std.specs.Prelude.{ℕ, zero, suc, ◌*◌, List, [], ◌++◌, eqb, length, drop, replicate, pos, Some, None}
use Rattle.laws.specs.Choice.{pick}
use Rattle.shapes.specs.Numbers.{most_n, most_m, most_p}
use Rattle.shapes.specs.declared.Totals.{Totals}
use Rattle.tables.specs.Nodes.{node_width}
use Rattle.tables.specs.Records.{record_width}
use Rattle.tables.specs.World.{World, totals_of, idle, spot}
use Rattle.tables.specs.Fresh.{fresh_of}
use Rattle.schedule.specs.Answers.{OpeningReading, CommandReading}
use Rattle.schedule.specs.Reading.{opening_at, command_at}
use Rattle.lines.specs.Text.{text_of}
use Rattle.lines.specs.declared.Line.{Line}
use Rattle.lines.specs.declared.Line.TheVariants.{Quiet, Answered, Refused, End, Bad}
use Rattle.tally.specs.Playing.{Evening, Told, counted, play_by}

-- ---- tables

-- what the program lends: room for the largest sizes, all 0
unfoldable pub lent : World
lent = record {
  board = record { totals = record { n = 0; m = 0; p = 0; nodes = 0; records = 0; counter = 0 }; workers = replicate most_p idle };
  nodes = replicate (most_n * node_width) 0;
  records = replicate (most_m * record_width) 0;
  pending = replicate (most_p * most_n) 0;
  found = replicate (most_p * most_n) (pos 0);
}

unfoldable pub fresh_evening : ℕ → ℕ → ℕ → Evening
fresh_evening n m p = record { world = (fresh_of n m p lent).world; turns = replicate most_p 0 }

-- ---- lines

-- where the keys that a line lists stand among the found keys: where its worker's list begins
unfoldable pub keys_place : Totals → Line → ℕ
keys_place t Quiet = 0
keys_place t (Answered number w answer turns) = spot t w 0
keys_place t (Refused number w refusal) = 0
keys_place t (End commands nodes records counter) = 0
keys_place t (Bad number) = 0

unfoldable pub spoken : Told → List ℕ
spoken d = let s = d.evening.world in text_of d.line s.found (keys_place (totals_of s) d.line)

-- the last line, of the totals as the evening left them
unfoldable pub end_line : ℕ → Totals → Line
end_line commands t = End commands t.nodes t.records t.counter

abbrev ended : ℕ → Evening → List ℕ
ended commands e = text_of (end_line commands (totals_of e.world)) [] 0

abbrev faulted : ℕ → List ℕ
faulted number = text_of (Bad number) [] 0

-- ---- the evening, by a way to add turns

unfoldable pub going : (ℕ → ℕ → ℕ) → ℕ → Evening → CommandReading → (ℕ → Evening → List ℕ) → List ℕ
going add done e (Some (c, end)) rest = let d = play_by add (suc done) c e in spoken d ++ rest end d.evening
going add done e None rest = faulted (suc done)

-- so many commands are done; a command has bytes, so there are no more than k in k bytes
unfoldable pub play_from : (ℕ → ℕ → ℕ) → ℕ → ℕ → List ℕ → Evening → List ℕ
play_from add zero done s e = pick (eqb (length s) 0) (ended done e) (faulted (suc done))
play_from add (suc k) done s e =
    let more = going add done e (command_at s) (λ end after. play_from add k (suc done) (drop end s) after) in
    pick (eqb (length s) 0) (ended done e) more

unfoldable pub begins : (ℕ → ℕ → ℕ) → OpeningReading → List ℕ → List ℕ
begins add (Some (o, end)) s = play_from add (length s) 0 (drop end s) (fresh_evening o.n o.m o.p)
begins add None s = faulted 0

unfoldable pub printed_by : (ℕ → ℕ → ℕ) → List ℕ → List ℕ
printed_by add s = begins add (opening_at s) s

-- all that the program prints for the bytes of a schedule; `exact` says that its counts are the sums
abbrev pub printed : List ℕ → List ℕ
printed = printed_by counted
