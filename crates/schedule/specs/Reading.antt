-- What bytes read as (01, 'The schedule'): several numbers, an opening, a command, a whole schedule. A fault is one whatever it is:
-- "an unknown command, n of 0, a number cut short, too long or too large".
use Rattle.std.specs.Prelude.{List, [], ◌∷◌, ℕ, zero, suc, ◌+◌, eqb, leb, length, get_or, drop, Option, Ok, Err, Some, None}
use Rattle.laws.specs.Choice.{pick}
use Rattle.groups.specs.Format.{read_of, signed_of, Reading}
use Rattle.tables.specs.Fresh.{sizes_ok}
use Rattle.schedule.specs.Answers.{opening, OpeningReading, CommandReading}
use Rattle.schedule.specs.Numbers.{most_bytes, insert, delete, find, scan, turns}
use Rattle.schedule.specs.Format.{Schedule}
use Rattle.schedule.specs.declared.Command.{Command}
use Rattle.schedule.specs.declared.Command.TheVariants.{Insert, Delete, Find, Scan, Turns}

-- ---- numbers, one behind another

-- the numbers and how many bytes they took, or a fault
abbrev pub Found : Type 0
Found = Option (List ℕ × ℕ)

unfoldable pub ahead : ℕ → ℕ → Found → Found
ahead n taken (Some (ns, end)) = Some (n ∷ ns, taken + end)
ahead n taken None = None

-- a number, then what stands behind its bytes
unfoldable pub followed : Reading → (ℕ → Found) → Found
followed (Ok (n, taken)) behind = ahead n taken (behind taken)
followed (Err f) behind = None

unfoldable pub numbers_at : ℕ → List ℕ → Found
numbers_at zero s = Some ([], 0)
numbers_at (suc k) s = followed (read_of s) (λ taken. numbers_at k (drop taken s))

-- ---- the opening

-- "sizes out of range" are a fault
unfoldable pub sized : Found → OpeningReading
sized (Some (ns, end)) = pick (sizes_ok (get_or ns 0 0) (get_or ns 1 0) (get_or ns 2 0)) (Some (opening (get_or ns 0 0) (get_or ns 1 0) (get_or ns 2 0), end)) None
sized None = None

-- "at most 65,536 bytes; a longer one is a fault in its opening"
unfoldable pub opening_at : List ℕ → OpeningReading
opening_at s = pick (leb (length s) most_bytes) (sized (numbers_at 3 s)) None

-- ---- a command

-- a command by its numbers: what it is, its worker, and one or two of its own
unfoldable pub command_of : ℕ → ℕ → ℕ → ℕ → ℕ → CommandReading
command_of kind worker a b end =
    pick (eqb kind insert) (Some (Insert worker (signed_of a), end))
    (pick (eqb kind delete) (Some (Delete worker (signed_of a), end))
    (pick (eqb kind find) (Some (Find worker (signed_of a), end))
    (pick (eqb kind scan) (Some (Scan worker (signed_of a) (signed_of b), end))
    (pick (eqb kind turns) (pick (eqb a 0) None (Some (Turns worker a, end)))
    None))))

unfoldable pub built : Found → CommandReading
built (Some (ns, end)) = command_of (get_or ns 0 0) (get_or ns 1 0) (get_or ns 2 0) (get_or ns 3 0) end
built None = None

-- how many numbers a command is; an unknown one is a fault however many follow
unfoldable pub numbers_in : ℕ → ℕ
numbers_in kind = pick (eqb kind scan) 4 3

-- its first number says what it is
unfoldable pub named : Reading → List ℕ → CommandReading
named (Ok (kind, taken)) s = built (numbers_at (numbers_in kind) s)
named (Err f) s = None

unfoldable pub command_at : List ℕ → CommandReading
command_at s = named (read_of s) s

-- ---- a whole schedule

-- the commands, or a fault
abbrev pub Listed : Type 0
Listed = Option (List Command)

unfoldable pub before : Command → Listed → Listed
before c (Some cs) = Some (c ∷ cs)
before c None = None

unfoldable pub handed_on : CommandReading → (ℕ → Listed) → Listed
handed_on (Some (c, end)) rest = before c (rest end)
handed_on None rest = None

-- "the rest of the file after each being handed on until none is left"; a command has bytes, so there are no more than k in k bytes
unfoldable pub commands_in : ℕ → List ℕ → Listed
commands_in zero s = pick (eqb (length s) 0) (Some []) None
commands_in (suc k) s = let more = handed_on (command_at s) (λ end. commands_in k (drop end s)) in pick (eqb (length s) 0) (Some []) more

abbrev pub ScheduleReading : Type 0
ScheduleReading = Option Schedule

unfoldable pub with_sizes : ℕ → ℕ → ℕ → Listed → ScheduleReading
with_sizes n m p (Some cs) = Some (record { n = n; m = m; p = p; commands = cs })
with_sizes n m p None = None

unfoldable pub opened : OpeningReading → List ℕ → ScheduleReading
opened (Some (o, end)) s = with_sizes o.n o.m o.p (commands_in (length s) (drop end s))
opened None s = None

unfoldable pub schedule_at : List ℕ → ScheduleReading
schedule_at s = opened (opening_at s) s
