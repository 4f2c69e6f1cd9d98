-- A whole listing: refused 1 by its tests, else made of two walks, one tried on no places and one into the list.
use Prim.Native.Nat.{ℕ, ◌+◌, ◌<◌, ◌≤◌}
use native.Mathlib.Omega.{arith}
use Rattle.std.specs.Prelude.{Option, None, Some}
use mathlib.Core.Path.{◌≡◌, refl, ◌∙◌}
use mathlib.Core.List.{List, []}
use mathlib.Core.Bool.{true, false}
use lib.ListN.{length}
use lib.Seq.{sets, sets-eq}
use lib.IntN.{ℤ}
use borrow.Author.Tests.{le-leb, lt-leb}
use Rattle.laws.specs.Choice.{pick}
use Rattle.shapes.specs.Numbers.{most_n}
use Rattle.shapes.specs.declared.Phase.{Phase}
use Rattle.shapes.specs.declared.Refusal.TheVariants as refusal
use Rattle.tables.specs.Names.{root}
use Rattle.tables.specs.World.{World, totals_of}
use Rattle.sound.specs.Sound.{sound_of}
use Rattle.sound.specs.Meaning.{Sound}
use Rattle.sound.specs.Agree.{says-sound}
use Rattle.listing.specs.Listing.{Walked, crooked, walked, walk, listed, refused, into_list, list_of}
use Rattle.listing.specs.Leaves.{Within}
use Rattle.listing.proofs.Leaves.{walk-within}
use Rattle.lister.specs.Lists.{lost, stands, standing, into}
use Rattle.lister.specs.declared.walk.Reached.{Reached}

abbrev pub whole : World → Phase → Walked
whole s i = walk (totals_of s).nodes (totals_of s).nodes s.nodes i root (totals_of s).nodes

-- sound tables use few nodes, so that every place fits
pub few_nodes : (s : World) → sound_of s ≡ true → 0 + (totals_of s).nodes ≤ most_n
few_nodes s h =
    let k : Sound s = (says-sound s).out h in
    omega (arith, k.shared.used.most_nodes, k.sizes.n_at_most)

within_n : (s : World) → sound_of s ≡ true → (totals_of s).nodes ≤ (totals_of s).n
within_n s h = ((says-sound s).out h).shared.used.most_nodes

-- ---- what the two walks show

lost_crooked : (t l : List ℤ) (w : Walked) → lost ≡ into t 0 w → refused refusal.Crooked l ≡ into_list l w
unfolding into into_list
lost_crooked t l crooked e = refl
lost_crooked t l (walked left ks) e = absurd (let z : ◌≡◌ {A = ℕ} 0 1 = cc in omega arith)

-- the walk tried found so many keys; the walk made wrote them, and what the list had behind them stays
keys_written : (l t tried out : List ℤ) (more n used : ℕ) (r : Option Reached) (w : Walked) → stands more n tried ≡ into t 0 w → standing r out ≡ into l 0 w → Within used w → used ≤ length l → listed n out ≡ into_list l w
unfolding into standing Within into_list
keys_written l t tried out more n used r crooked e f h k = absurd (let z : ◌≡◌ {A = ℕ} 0 1 = cc in omega arith)
keys_written l t tried out more n used None (walked left ks) e f h k = absurd (let z : ◌≡◌ {A = ℕ} 0 1 = cc in omega arith)
keys_written l t tried out more n used (Some r) (walked left ks) e f h k =
    let g : 0 + length ks ≡ length ks = omega arith in
    let a : n ≡ 0 + length ks = cc in
    let b : out ≡ sets l 0 ks = cc in
    rw (a, b, sets-eq ks l 0 (omega arith), g) refl

-- ---- the listing

module _ (s : World) (i : Phase) (l : List ℤ) where
  pub not_sound : sound_of s ≡ false → refused refusal.Table l ≡ list_of s i l
  unfolding list_of pick
  not_sound h = rw h refl

  pub too_short : sound_of s ≡ true → length l < (totals_of s).n → refused refusal.Table l ≡ list_of s i l
  unfolding list_of pick
  too_short h k = rw (h, lt-leb _ _ k) refl

  by_walk : sound_of s ≡ true → (totals_of s).n ≤ length l → into_list l (whole s i) ≡ list_of s i l
  unfolding list_of pick
  by_walk h k = rw (h, le-leb _ _ k) refl

  pub refused_crooked : sound_of s ≡ true → (totals_of s).n ≤ length l → lost ≡ into [] 0 (whole s i) → refused refusal.Crooked l ≡ list_of s i l
  refused_crooked h k f = lost_crooked [] l (whole s i) f ∙ by_walk h k

  pub made : (tried out : List ℤ) (more n : ℕ) (r : Option Reached) → sound_of s ≡ true → (totals_of s).n ≤ length l → stands more n tried ≡ into [] 0 (whole s i) → standing r out ≡ into l 0 (whole s i) → listed n out ≡ list_of s i l
  made tried out more n r h k f g =
      let fit : (totals_of s).nodes ≤ length l = omega (arith, within_n s h) in
      keys_written l [] tried out more n (totals_of s).nodes r (whole s i) f g (walk-within _ _ _ _ _ _) fit ∙ by_walk h k
