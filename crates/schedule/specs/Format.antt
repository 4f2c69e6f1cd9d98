-- What bytes a schedule is (01, 'The schedule').
use Rattle.std.specs.Prelude.{◌≡◌, List, [], ◌∷◌, ◌++◌, Bool, true, ℕ, ◌^◌, ◌≤◌, ltb, length}
use Rattle.laws.specs.Parts.{Below}
use Rattle.groups.specs.Format.{bits, groups_of, code_of}
use Rattle.tables.specs.Fresh.{sizes_ok}
use Rattle.schedule.specs.Numbers.{most_bytes, insert, delete, find, scan, turns}
use Rattle.schedule.specs.declared.Command.{Command}
use Rattle.schedule.specs.declared.Command.TheVariants.{Insert, Delete, Find, Scan, Turns}

-- "All numbers stand in groups of seven bits", one number behind another
unfoldable pub spelled_all : List ℕ → List ℕ
spelled_all [] = []
spelled_all (n ∷ ns) = groups_of n ++ spelled_all ns

-- "1 worker key (insert), 2 worker key (delete), 3 worker key (find), 4 worker a b (scan), 5 worker n"; "Keys, a and b are signed"
unfoldable pub numbers_of : Command → List ℕ
numbers_of (Insert worker key) = insert ∷ worker ∷ code_of key ∷ []
numbers_of (Delete worker key) = delete ∷ worker ∷ code_of key ∷ []
numbers_of (Find worker key) = find ∷ worker ∷ code_of key ∷ []
numbers_of (Scan worker a b) = scan ∷ worker ∷ code_of a ∷ code_of b ∷ []
numbers_of (Turns worker n) = turns ∷ worker ∷ n ∷ []

unfoldable pub command_bytes : Command → List ℕ
command_bytes c = spelled_all (numbers_of c)

-- "First N, M, P"
unfoldable pub opening_bytes : ℕ → ℕ → ℕ → List ℕ
opening_bytes n m p = spelled_all (n ∷ m ∷ p ∷ [])

-- "n turns, n at least 1"
unfoldable pub accepted : Command → Bool
accepted (Insert worker key) = true
accepted (Delete worker key) = true
accepted (Find worker key) = true
accepted (Scan worker a b) = true
accepted (Turns worker n) = ltb 0 n

-- a command that has bytes: its numbers are of 32 bits, "at most 4,294,967,295", and n is not 0
pub record Proper (c : Command) : Type 0 where
  pub fits : Below (2 ^ bits) (numbers_of c)
  pub some : accepted c ≡ true

-- ---- whole schedules

pub record Schedule : Type 0 where
  pub n : ℕ
  pub m : ℕ
  pub p : ℕ
  pub commands : List Command

unfoldable pub all_bytes : List Command → List ℕ
all_bytes [] = []
all_bytes (c ∷ cs) = command_bytes c ++ all_bytes cs

-- "First N, M, P; then commands"
unfoldable pub schedule_bytes : Schedule → List ℕ
schedule_bytes x = opening_bytes x.n x.m x.p ++ all_bytes x.commands

unfoldable pub EachProper : List Command → Type 0
EachProper [] = Unit
EachProper (c ∷ cs) = Proper c × EachProper cs

-- these bytes are this schedule
pub record Is (s : List ℕ) (x : Schedule) : Type 0 where
  pub bytes : s ≡ schedule_bytes x
  pub sizes : sizes_ok x.n x.m x.p ≡ true
  pub each : EachProper x.commands
  pub few : length s ≤ most_bytes
