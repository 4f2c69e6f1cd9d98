-- A schedule that is written reads back as itself, and one that reads is written again as the same bytes.
use Rattle.std.specs.Prelude.{◌≡◌, refl, true, take, Ok, Some}
use Rattle.std.proofs.Common.{subst}
use mathlib.Core.List.{List}
use Prim.Native.Nat.{ℕ, ◌≤◌}
use Rattle.std.proofs.Math.ListN.{length}
use Rattle.std.proofs.lemmas.List.Edits.{sets}
use Rattle.laws.specs.Parts.{Below}
use Rattle.tables.specs.Fresh.{sizes_ok}
use Rattle.schedule.specs.Numbers.{most_bytes}
use Rattle.schedule.specs.Format.{Schedule, schedule_bytes, EachProper, Is}
use Rattle.schedule.specs.Reading.{schedule_at}
use Rattle.schedule.specs.Writing.{left, write_schedule}
use Rattle.schedule.specs.Written.{front, schedule_written}
use Rattle.schedule.proofs.Whole.{schedule_reads, read_is_schedule}

module _ (x : Schedule) (buffer : List ℕ) (sizes : sizes_ok x.n x.m x.p ≡ true) (each : EachProper x.commands) (few : length (schedule_bytes x) ≤ most_bytes) (room : length (schedule_bytes x) ≤ length buffer) where
  -- a schedule that is written reads back as itself
  pub written_reads : ((write_schedule x buffer).answer ≡ Ok (length (schedule_bytes x))) × (schedule_at (take (length (schedule_bytes x)) (write_schedule x buffer).buffer) ≡ Some x)
  written_reads = rw (schedule_written x buffer sizes each few room) (refl, rw (front (schedule_bytes x) buffer room) (schedule_reads (schedule_bytes x) x (record { bytes = refl; sizes = sizes; each = each; few = few })))

-- a schedule that reads well is written again as the same bytes
pub read_is_written : (s : List ℕ) → Below 256 s → (x : Schedule) → schedule_at s ≡ Some x → (buffer : List ℕ) → length s ≤ length buffer → write_schedule x buffer ≡ left (Ok (length s)) (sets buffer 0 s)
read_is_written s b x e buffer room =
    let is : Is s x = read_is_schedule s b x e in
    rw is.bytes (schedule_written x buffer is.sizes is.each (subst (λ (l : List ℕ). length l ≤ most_bytes) is.bytes is.few) (subst (λ (l : List ℕ). length l ≤ length buffer) is.bytes room))
