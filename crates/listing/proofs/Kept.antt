-- What a listing leaves of the lent list: places behind the keys keep their contents, a refusal leaves it as it was.
use Rattle.std.specs.Prelude.{ℕ, ◌≤◌, ◌≡◌, refl, List, true, ◌&&◌, length, ℤ, leb}
use Rattle.std.proofs.Common.{arith, inl, inr, length-append, length-drop}
use Rattle.std.proofs.Math.Seq.{drop-append_seam}
use Rattle.laws.specs.Choice.{fork}
use Rattle.laws.specs.Tests.{says_and, says_le}
use Rattle.shapes.specs.Numbers.{refusal_number}
use Rattle.shapes.specs.declared.Phase.{Phase}
use Rattle.shapes.specs.declared.Refusal.TheVariants as refusal
use Rattle.tables.specs.World.{World, totals_of}
use Rattle.sound.specs.Sound.{sound_of}
use Rattle.sound.specs.Meaning.{Sound}
use Rattle.sound.specs.Agree.{says-sound}
use Rattle.listing.specs.Listing.{Walked, crooked, walked, refused, into_list, list_of}
use Rattle.listing.specs.Leaves.{Within}
use Rattle.listing.specs.Kept.{Leaves}
use Rattle.listing.proofs.Leaves.{walk-within}

walk-leaves : (used : ℕ) (l : List ℤ) (w : Walked) → used ≤ length l → Within used w → Leaves used l (into_list l w)
unfolding Leaves into_list Within refusal_number
walk-leaves used l crooked h k = (refl, inr refl)
walk-leaves used l (walked left ks) h k = record { few = omega arith; same_length = simp (length-append, length-drop) (omega arith); behind = drop-append_seam ks _ }

table_leaves : (used : ℕ) (l : List ℤ) → Leaves used l (refused refusal.Table l)
unfolding Leaves refusal_number
table_leaves used l = (refl, inl refl)

-- sound tables use no more than N nodes, and the list has N places
room : (s : World) (l : List ℤ) → (sound_of s && leb (totals_of s).n (length l)) ≡ true → (totals_of s).nodes ≤ length l
room s l e =
    let h : Sound s × ((totals_of s).n ≤ length l) = (says_and (says-sound s) (says_le _ _)).out e in
    omega (arith, h.0.shared.used.most_nodes, h.1)

pub listing-leaves : (s : World) (i : Phase) (l : List ℤ) → Leaves (totals_of s).nodes l (list_of s i l)
unfolding list_of
listing-leaves s i l = fork (Leaves (totals_of s).nodes l) (sound_of s && leb (totals_of s).n (length l)) (λ e. walk-leaves _ l _ (room s l e) (walk-within _ _ _ _ _ _)) (λ e. table_leaves _ l)
