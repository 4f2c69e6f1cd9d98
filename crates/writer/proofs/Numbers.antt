-- Numbers written one behind another: how long they are, what they leave, and which numbers an opening or a command is.
use Rattle.std.specs.Prelude.{◌≡◌, refl, List, [], ◌∷◌, true, false, ℕ, ◌+◌, ◌*◌, ◌^◌, ◌≤◌, ◌<◌, ℤ, length, sum_by, drop, get_or, Ok, Err, IsOk}
use Rattle.std.proofs.Common.{ap, ◌∙◌, sym, arith, length-append, lt-ltb, add-one, drop-cons, rules}
use Rattle.std.proofs.lemmas.Int.{ints, to_z-of_z}
use Rattle.std.proofs.lemmas.List.Edits.{sets}
use Rattle.std.proofs.Math.Seq.{length-sets}
use Rattle.std.proofs.lemmas.List.{drop_all}
use Rattle.std.proofs.lemmas.List.Sums.{sum_by-cons}
use Rattle.groups.specs.Format.{Written, left as left_groups, groups_of, code_of, write_of}
use Rattle.groups.specs.Writing.{put_all}
use Rattle.groups.specs.Spelling.{one_to_five}
use Rattle.tables.specs.Fresh.{sizes_ok}
use Rattle.schedule.specs.Numbers.{insert, delete, find, scan, turns}
use Rattle.schedule.specs.Format.{spelled_all, numbers_of, command_bytes, opening_bytes, accepted}
use Rattle.schedule.specs.Writing.{left, entered, write_opening, write_command}
use Rattle.schedule.specs.Written.{enters, too_short, past_the_end, not_fine, sets-append}
use Rattle.schedule.specs.declared.Command.TheVariants.{Insert, Delete, Find, Scan, Turns}
use Rattle.schedule.specs.declared.Refusal.TheVariants.{File}

-- ---- how long

length_more : (n : ℕ) (ns : List ℕ) → length (spelled_all (n ∷ ns)) ≡ length (groups_of n) + length (spelled_all ns)
unfolding spelled_all
length_more n ns = length-append (groups_of n) (spelled_all ns)

length_none : length (spelled_all []) ≡ 0
unfolding spelled_all
length_none = refl

pub few_bytes : (ns : List ℕ) → length (spelled_all ns) ≤ 5 * length ns
few_bytes [] = omega (arith, length_none)
few_bytes (n ∷ ns) = omega (arith, length_more n ns, (one_to_five n).1, few_bytes ns)

pub total : (ns : List ℕ) → length (spelled_all ns) ≡ sum_by (λ n. length (groups_of n)) ns
total [] = length_none
total (n ∷ ns) = rw (sum_by-cons (λ n. length (groups_of n)) n ns) (length_more n ns ∙ ap (λ k. length (groups_of n) + k) (total ns))

pub total_fits : (ns : List ℕ) → length ns ≤ 4 → sum_by (λ n. length (groups_of n)) ns < 2 ^ 64
total_fits ns h = omega (arith, few_bytes ns, total ns)

pub ruleset lengths = (total, total_fits)

-- ---- one behind another

-- nothing is left to write
pub all_put : (ns buffer : List ℕ) (i at : ℕ) → length ns ≤ i → sets buffer at (spelled_all (drop i ns)) ≡ buffer
unfolding spelled_all
all_put ns buffer i at h = rw (drop_all i ns h)

-- a number is written where there is room for all that are left; what is left behind it does the rest
module _ (ns buffer after : List ℕ) (i at : ℕ) (r : Written) (e : left_groups r after ≡ write_of (get_or ns i 0) buffer at) (more : i < length ns) (room : at + length (spelled_all (drop i ns)) ≤ length buffer) where
  one_more : drop i ns ≡ get_or ns i 0 ∷ drop (i + 1) ns
  one_more = rw (add-one, drop-cons ns i 0 more)

  both : length (spelled_all (drop i ns)) ≡ length (groups_of (get_or ns i 0)) + length (spelled_all (drop (i + 1) ns))
  both = ap (λ l. length (spelled_all l)) one_more ∙ length_more (get_or ns i 0) (drop (i + 1) ns)

  left_so : left_groups r after ≡ left_groups (Ok (at + length (groups_of (get_or ns i 0)))) (sets buffer at (groups_of (get_or ns i 0)))
  left_so = e ∙ put_all (groups_of (get_or ns i 0)) buffer at (omega (arith, both))

  pub is_written : IsOk r
  is_written = rw (ap (λ l. l.answer) left_so) (search rules)

  module _ (end : ℕ) (ok : r ≡ Ok end) where
    ends : end ≡ at + length (groups_of (get_or ns i 0))
    ends = let same : ◌≡◌ {A = Written} (Ok end) (Ok (at + length (groups_of (get_or ns i 0)))) = sym ok ∙ ap (λ l. l.answer) left_so in cc

    pub rest_put : sets after end (spelled_all (drop (i + 1) ns)) ≡ sets buffer at (spelled_all (drop i ns))
    unfolding spelled_all
    rest_put = rw (ap (λ l. l.buffer) left_so, ends, one_more) (sets-append (groups_of (get_or ns i 0)) (spelled_all (drop (i + 1) ns)) buffer at)

    pub rest_room : end + length (spelled_all (drop (i + 1) ns)) ≤ length after
    rest_room = omega (arith, both, ends, ap (λ l. length l.buffer) left_so ∙ length-sets buffer at (groups_of (get_or ns i 0)))

-- ---- which numbers

module _ (n m p : ℕ) (buffer : List ℕ) (at : ℕ) where
  pub sizes_refused : sizes_ok n m p ≡ false → write_opening n m p buffer at ≡ left (Err File) buffer
  unfolding write_opening
  sizes_refused out = rw out (not_fine (opening_bytes n m p) buffer at)

  pub sizes_entered : sizes_ok n m p ≡ true → write_opening n m p buffer at ≡ entered true (spelled_all (n ∷ m ∷ p ∷ [])) buffer at
  unfolding write_opening opening_bytes
  sizes_entered ok = rw ok

module _ (worker : ℕ) (buffer : List ℕ) (at : ℕ) where
  pub insert_entered : (key : ℤ) → write_command (Insert worker key) buffer at ≡ entered true (spelled_all (insert ∷ worker ∷ code_of key ∷ [])) buffer at
  unfolding write_command accepted command_bytes numbers_of
  insert_entered key = refl

  pub delete_entered : (key : ℤ) → write_command (Delete worker key) buffer at ≡ entered true (spelled_all (delete ∷ worker ∷ code_of key ∷ [])) buffer at
  unfolding write_command accepted command_bytes numbers_of
  delete_entered key = refl

  pub find_entered : (key : ℤ) → write_command (Find worker key) buffer at ≡ entered true (spelled_all (find ∷ worker ∷ code_of key ∷ [])) buffer at
  unfolding write_command accepted command_bytes numbers_of
  find_entered key = refl

  pub scan_entered : (a b : ℤ) → write_command (Scan worker a b) buffer at ≡ entered true (spelled_all (scan ∷ worker ∷ code_of a ∷ code_of b ∷ [])) buffer at
  unfolding write_command accepted command_bytes numbers_of
  scan_entered a b = refl

  pub no_turns_refused : write_command (Turns worker 0) buffer at ≡ left (Err File) buffer
  unfolding write_command accepted
  no_turns_refused = not_fine (command_bytes (Turns worker 0)) buffer at

  pub turns_entered : (n : ℕ) → (n ≡ 0 → ⊥) → write_command (Turns worker n) buffer at ≡ entered true (spelled_all (turns ∷ worker ∷ n ∷ [])) buffer at
  unfolding write_command accepted command_bytes numbers_of
  turns_entered n some = rw (lt-ltb 0 n (omega arith))

-- what `enter`, `write_opening` and `write_command` are proved by
pub ruleset by_room = (few_bytes, total_fits, enters, too_short, past_the_end)

pub ruleset by_sizes = (sizes_refused, sizes_entered)

pub ruleset by_kind = (ints, to_z-of_z, insert_entered, delete_entered, find_entered, scan_entered, no_turns_refused, turns_entered)
