-- What stands at the start of a buffer once groups are written there: the groups.
use mathlib.Core.Path.{◌≡◌, ap, ◌∙◌}
use mathlib.Core.List.{List, ◌++◌}
use Prim.Native.Nat.{ℕ, ◌≤◌}
use native.Mathlib.Nat.{zero-add}
use native.Mathlib.Omega.{arith}
use lib.ListN.{length, take, drop}
use lib.Seq.{take-append_seam}
use Rattle.groups.specs.Format.{Written, left, put}
use Rattle.groups.specs.Writing.{put-between}

pub in_front : (bytes buffer after : List ℕ) (r : Written) → left r after ≡ put bytes buffer 0 → length bytes ≤ length buffer → take (length bytes) after ≡ bytes
in_front bytes buffer after r e h =
    let stands : after ≡ bytes ++ drop (length bytes) buffer = rw zero-add at (ap (λ l. l.buffer) (e ∙ put-between bytes buffer 0 (omega arith))) in
    rw stands (take-append_seam bytes _)
