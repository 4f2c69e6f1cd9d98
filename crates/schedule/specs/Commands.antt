-- A command that is written reads back as itself, whatever follows it.
use Rattle.std.specs.Prelude.{◌≡◌, refl, true, ℕ, ◌^◌, ◌≤◌, ◌<◌, length, Ok, Some}
use Rattle.std.proofs.Common.{◌∙◌, arith, length-append, SFits, ltb-true, ne_eqb}
use mathlib.Core.List.{List, [], ◌∷◌, ◌++◌, append_assoc}
use Rattle.std.specs.Int.{w32}
use Rattle.laws.specs.Choice.{pick, pick_false}
use Rattle.laws.specs.Parts.{Below, below_head, below_none, below_cons}
use Rattle.groups.specs.Format.{bits, groups_of, read_of, code_of}
use Rattle.groups.specs.Spelling.{spelled_some}
use Rattle.groups.specs.Codes.{signed_code, code_fits}
use Rattle.groups.specs.RoundTrip.{written_reads}
use Rattle.schedule.specs.Numbers.{insert, delete, find, scan, turns}
use Rattle.schedule.specs.Format.{spelled_all, numbers_of, command_bytes, accepted, Proper}
use Rattle.schedule.specs.Reading.{numbers_in, command_of, built, named, command_at}
use Rattle.schedule.specs.Numerals.{spelled_read}
use Rattle.schedule.specs.declared.Command.{Command}
use Rattle.schedule.specs.declared.Command.TheVariants.{Insert, Delete, Find, Scan, Turns}

-- ---- the commands that code can hold

-- a worker and n are of 32 bits, keys of 32 with their sign
unfoldable pub Held : Command → Type 0
Held (Insert worker key) = (worker < 2 ^ bits) × SFits w32 key
Held (Delete worker key) = (worker < 2 ^ bits) × SFits w32 key
Held (Find worker key) = (worker < 2 ^ bits) × SFits w32 key
Held (Scan worker a b) = (worker < 2 ^ bits) × SFits w32 a × SFits w32 b
Held (Turns worker n) = (worker < 2 ^ bits) × (n < 2 ^ bits)

three_fit : (a b c : ℕ) → a < 2 ^ bits → b < 2 ^ bits → c < 2 ^ bits → Below (2 ^ bits) (a ∷ b ∷ c ∷ [])
three_fit a b c fa fb fc = below_cons (2 ^ bits) a (b ∷ c ∷ []) fa (below_cons (2 ^ bits) b (c ∷ []) fb (below_cons (2 ^ bits) c [] fc (below_none (2 ^ bits))))

-- those that a writer accepts are proper
pub held_proper : (c : Command) → Held c → accepted c ≡ true → Proper c
unfolding Held numbers_of
held_proper (Insert worker key) h ok = record { fits = three_fit insert worker (code_of key) (omega arith) h.0 (code_fits w32 key h.1).fits; some = ok }
held_proper (Delete worker key) h ok = record { fits = three_fit delete worker (code_of key) (omega arith) h.0 (code_fits w32 key h.1).fits; some = ok }
held_proper (Find worker key) h ok = record { fits = three_fit find worker (code_of key) (omega arith) h.0 (code_fits w32 key h.1).fits; some = ok }
held_proper (Scan worker a b) h ok = record { fits = below_cons (2 ^ bits) scan _ (omega arith) (three_fit worker (code_of a) (code_of b) h.0 (code_fits w32 a h.1).fits (code_fits w32 b h.2).fits); some = ok }
held_proper (Turns worker n) h ok = record { fits = three_fit turns worker n (omega arith) h.0 h.1; some = ok }

-- ---- what is written reads back

-- numbers that are as many as the first says
numbers_built : (n : ℕ) (ns rest : List ℕ) → Below (2 ^ bits) (n ∷ ns) → numbers_in n ≡ length (n ∷ ns) → command_at (spelled_all (n ∷ ns) ++ rest) ≡ built (Some (n ∷ ns, length (spelled_all (n ∷ ns))))
unfolding command_at named
numbers_built n ns rest b many = rw (first, many, spelled_read (n ∷ ns) rest b)
  where
    first : read_of (spelled_all (n ∷ ns) ++ rest) ≡ Ok (n, length (groups_of n))
    first = unfold spelled_all in rw append_assoc (written_reads bits n (spelled_all ns ++ rest) (below_head (2 ^ bits) n ns b))

pub command_reads : (c : Command) (rest : List ℕ) → Proper c → command_at (command_bytes c ++ rest) ≡ Some (c, length (command_bytes c))
unfolding command_bytes numbers_of accepted numbers_in built command_of pick
command_reads (Insert worker key) rest p = numbers_built insert (worker ∷ code_of key ∷ []) rest p.fits refl ∙ rw (signed_code key)
command_reads (Delete worker key) rest p = numbers_built delete (worker ∷ code_of key ∷ []) rest p.fits refl ∙ rw (signed_code key)
command_reads (Find worker key) rest p = numbers_built find (worker ∷ code_of key ∷ []) rest p.fits refl ∙ rw (signed_code key)
command_reads (Scan worker a b) rest p = numbers_built scan (worker ∷ code_of a ∷ code_of b ∷ []) rest p.fits refl ∙ rw (signed_code a, signed_code b) refl
command_reads (Turns worker n) rest p = numbers_built turns (worker ∷ n ∷ []) rest p.fits refl ∙ pick_false _ _ _ (ne_eqb n 0 (λ e. omega (arith, ltb-true 0 n p.some)))

-- ---- a command has bytes
spelled-any : (ns : List ℕ) → 1 ≤ length ns → 1 ≤ length (spelled_all ns)
unfolding spelled_all
spelled-any [] h = h
spelled-any (n ∷ ns) h = omega (arith, length-append (groups_of n) (spelled_all ns), spelled_some bits n)

pub command_some : (c : Command) → 1 ≤ length (command_bytes c)
unfolding command_bytes numbers_of
command_some c = spelled-any (numbers_of c) (some c)
  where
    some : (c : Command) → 1 ≤ length (numbers_of c)
    some (Insert worker key) = omega arith
    some (Delete worker key) = omega arith
    some (Find worker key) = omega arith
    some (Scan worker a b) = omega arith
    some (Turns worker n) = omega arith
