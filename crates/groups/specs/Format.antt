-- Numbers in groups of seven bits (01, "The schedule"): how a number is spelled, what bytes read as, what a writing leaves, how signed
-- numbers are sent. Over any width in bits; the schedule's 32 stand at the end.
use Rattle.std.specs.Prelude.{List, [], ◌∷◌, ℕ, zero, suc, ◌+◌, ◌*◌, ◌-◌, ◌/◌, ◌%◌, ◌^◌, ltb, leb, eqb, ℤ, pos, negsuc, length, Result, Ok, Err}
use Rattle.std.proofs.lemmas.List.Edits.{sets}
use Rattle.laws.specs.Choice.{pick}
use Rattle.groups.specs.declared.Fault.{Fault}
use Rattle.groups.specs.declared.Fault.TheVariants.{CutShort, NotShortest, TooLong, TooLarge}
use Rattle.groups.specs.declared.TooShort.{TooShort}

-- a number and how many bytes it took, so where the rest begins; or why there is none
abbrev pub Reading : Type 0
Reading = Result (ℕ × ℕ) Fault

abbrev pub SignedReading : Type 0
SignedReading = Result (ℤ × ℕ) Fault

-- where the bytes written end, or that there is no room for them
abbrev pub Written : Type 0
Written = Result ℕ TooShort

abbrev pub too_short : TooShort
too_short = record {}

-- "groups of seven bits": so many values; "top bit set when another follows": so much is added
abbrev pub group : ℕ
group = 128

-- ---- spelling

-- "lowest first, top bit set when another follows, shortest form only": n in at most k groups
unfoldable pub spelling : ℕ → ℕ → List ℕ
spelling zero n = []
spelling (suc k) n = let more = spelling k (n / group) in pick (ltb n group) (n ∷ []) ((group + n % group) ∷ more)

-- the most groups that a number of so many bits takes
unfoldable pub most_groups : ℕ → ℕ
most_groups width = suc ((width - 1) / 7)

-- a number of so many bits
unfoldable pub spelled : ℕ → ℕ → List ℕ
spelled width n = spelling (most_groups width) n

-- ---- reading

-- a value that so many bits hold, "too large" if they do not
unfoldable pub held : ℕ → ℕ → ℕ → Reading
held width value taken = pick (ltb value (2 ^ width)) (Ok (value, taken)) (Err TooLarge)

-- a group with what was read after it; "shortest form only": that is not 0
unfoldable pub joined : ℕ → ℕ → Reading → Reading
joined width byte (Ok (above, taken)) = pick (eqb above 0) (Err NotShortest) (held width (byte - group + group * above) (taken + 1))
joined width byte (Err fault) = Err fault

-- the number at the front of the bytes: "too long" if it takes more than k groups, "cut short" if the bytes end in it
unfoldable pub read_up_to : ℕ → ℕ → List ℕ → Reading
read_up_to width zero s = Err TooLong
read_up_to width (suc k) [] = Err CutShort
read_up_to width (suc k) (byte ∷ s) = let more = read_up_to width k s in pick (ltb byte group) (held width byte 1) (joined width byte more)

-- a number of so many bits
unfoldable pub reading : ℕ → List ℕ → Reading
reading width s = read_up_to width (most_groups width) s

-- ---- writing

-- all that a writing leaves: its answer and the buffer
pub record Left : Type 0 where
  pub answer : Written
  pub buffer : List ℕ

abbrev pub left : Written → List ℕ → Left
left answer buffer = record { answer = answer; buffer = buffer }

-- bytes written at a place of a buffer, or the buffer as it was where it is too short for them
unfoldable pub put : List ℕ → List ℕ → ℕ → Left
put bytes buffer at = pick (leb (at + length bytes) (length buffer)) (left (Ok (at + length bytes)) (sets buffer at bytes)) (left (Err too_short) buffer)

-- ---- signed numbers

-- "n is sent as 2n, or −2n − 1 when negative"; `negsuc m` is −m − 1
unfoldable pub code_of : ℤ → ℕ
code_of (pos n) = 2 * n
code_of (negsuc m) = 2 * m + 1

-- the number that is sent so
unfoldable pub signed_of : ℕ → ℤ
signed_of code = pick (eqb (code % 2) 0) (pos (code / 2)) (negsuc (code / 2))

-- "Keys, a and b are signed": what was read is a code
unfoldable pub decoded : Reading → SignedReading
decoded (Ok (code, taken)) = Ok (signed_of code, taken)
decoded (Err fault) = Err fault

-- ---- the format of the schedule: "at most 4,294,967,295", so 32 bits

abbrev pub bits : ℕ
bits = 32

abbrev pub groups_of : ℕ → List ℕ
groups_of n = spelled bits n

abbrev pub read_of : List ℕ → Reading
read_of s = reading bits s

abbrev pub write_of : ℕ → List ℕ → ℕ → Left
write_of n buffer at = put (groups_of n) buffer at

abbrev pub read_signed_of : List ℕ → SignedReading
read_signed_of s = decoded (read_of s)

abbrev pub write_signed_of : ℤ → List ℕ → ℕ → Left
write_signed_of n buffer at = write_of (code_of n) buffer at
