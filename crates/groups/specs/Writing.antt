-- What a writing leaves: all the bytes at their place with the rest of the buffer as it was, or the whole buffer as it was. Over any width.
use Rattle.std.specs.Prelude.{◌≡◌, List, ◌++◌, ℕ, ◌+◌, ◌^◌, ◌≤◌, ◌<◌, length, take, drop, Ok, Err}
use Rattle.std.proofs.Common.{ap, ◌∙◌, append_assoc, arith, drop_at, length-take-le, le-leb}
use Rattle.std.proofs.lemmas.List.Edits.{sets, sets-eq}
use Rattle.std.proofs.lemmas.Bool.{lt-leb}
use Rattle.laws.specs.Choice.{pick_true, pick_false}
use Rattle.groups.specs.Format.{left, too_short, put, spelled, reading}
use Rattle.groups.specs.Spelling.{spelled_some}
use Rattle.groups.specs.RoundTrip.{written_reads}

pub put_all : (bytes buffer : List ℕ) (at : ℕ) → at + length bytes ≤ length buffer → put bytes buffer at ≡ left (Ok (at + length bytes)) (sets buffer at bytes)
unfolding put
put_all bytes buffer at h = pick_true _ _ _ (le-leb (at + length bytes) (length buffer) h)

pub put_none : (bytes buffer : List ℕ) (at : ℕ) → length buffer < at + length bytes → put bytes buffer at ≡ left (Err too_short) buffer
unfolding put
put_none bytes buffer at h = pick_false _ _ _ (lt-leb (at + length bytes) (length buffer) h)

-- what a writing of groups is proved by
pub ruleset writes = (put_all, put_none, spelled_some)

-- where there is room, what was written stands between what was there before it and after it
pub put-between : (bytes buffer : List ℕ) (at : ℕ) → at + length bytes ≤ length buffer → put bytes buffer at ≡ left (Ok (at + length bytes)) (take at buffer ++ bytes ++ drop (at + length bytes) buffer)
put-between bytes buffer at h = put_all bytes buffer at h ∙ ap (left (Ok (at + length bytes))) (sets-eq bytes buffer at h)

-- and reads back from its place
pub put_reads : (width n : ℕ) (buffer : List ℕ) (at : ℕ) → n < 2 ^ width → at + length (spelled width n) ≤ length buffer → reading width (drop at (sets buffer at (spelled width n))) ≡ Ok (n, length (spelled width n))
put_reads width n buffer at fits h = rw (sets-eq (spelled width n) buffer at h, append_assoc, drop_at (take at buffer) _ at (length-take-le at buffer (omega arith))) (written_reads width n _ fits)
