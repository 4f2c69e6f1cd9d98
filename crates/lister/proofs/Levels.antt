-- How the walk goes on to its children, what its two parts write one behind the other, and that its places fit.
use Rattle.std.specs.Prelude.{None, Some}
use Prim.Native.Nat.{ℕ, zero, suc, ◌+◌, ◌-◌, ◌≤◌}
use native.Mathlib.Omega.{arith}
use mathlib.Core.Path.{◌≡◌, refl}
use mathlib.Core.List.{List, [], ◌∷◌, ◌++◌}
use mathlib.Core.Bool.{true, false}
use lib.ListN.{length, set, length-append}
use lib.Seq.{sets}
use lib.IntN.{ℤ}
use borrow.Author.Tests.{eq-eqb, ne_eqb}
use Rattle.laws.specs.Choice.{pick}
use Rattle.shapes.specs.declared.NodeNo.{NodeNo}
use Rattle.shapes.specs.declared.Phase.{Phase}
use Rattle.tables.specs.Names.{number_of}
use Rattle.tables.specs.Nodes.{is_internal, rank_at}
use Rattle.tables.specs.Versions.{read_child}
use Rattle.listing.specs.Listing.{Walked, crooked, walked, leaf_keys, at_leaf, behind, and_then, to_child, walk}
use Rattle.listing.specs.Leaves.{Within}
use Rattle.listing.proofs.Leaves.{walk-within}
use Rattle.lister.specs.Lists.{Stands, lost, stands, into}

-- ---- down a level

module _ (used : ℕ) (ns : List ℕ) (i : Phase) (x : NodeNo) (leaves : ℕ) where
  pub meets_leaf : (levels : ℕ) → is_internal ns x ≡ false → walk levels used ns i x leaves ≡ at_leaf ns x leaves
  unfolding walk pick
  meets_leaf zero h = rw h refl
  meets_leaf (suc levels) h = rw h refl

  pub too_deep : (levels : ℕ) → is_internal ns x ≡ true → levels ≡ 0 → walk levels used ns i x leaves ≡ crooked
  unfolding walk pick
  too_deep zero h k = rw h refl
  too_deep (suc levels) h k = absurd (omega arith)

  goes_down : (levels : ℕ) → is_internal ns x ≡ true → (levels ≡ 0 → ⊥) → walk levels used ns i x leaves ≡ to_child (read_child used ns x true i) (λ a. to_child (read_child used ns x false i) (λ b. and_then (walk (levels - 1) used ns i a leaves) (walk (levels - 1) used ns i b)))
  unfolding walk pick
  goes_down zero h k = absurd (k refl)
  goes_down (suc levels) h k = let e : suc levels - 1 ≡ levels = omega arith in rw (h, e) refl

  pub left_lost : (levels : ℕ) → is_internal ns x ≡ true → (levels ≡ 0 → ⊥) → read_child used ns x true i ≡ None → walk levels used ns i x leaves ≡ crooked
  unfolding to_child
  left_lost levels h k e = rw (goes_down levels h k, e) refl

  pub right_lost : (levels : ℕ) {a : NodeNo} → is_internal ns x ≡ true → (levels ≡ 0 → ⊥) → read_child used ns x true i ≡ Some a → read_child used ns x false i ≡ None → walk levels used ns i x leaves ≡ crooked
  unfolding to_child
  right_lost levels h k e f = rw (goes_down levels h k, e, f) refl

-- ---- one part behind the other

sets-append : (l : List ℤ) (at : ℕ) (xs ys : List ℤ) → sets l at (xs ++ ys) ≡ sets (sets l at xs) (at + length xs) ys
sets-append l at [] ys = let e : at + 0 ≡ at = omega arith in rw e refl
sets-append l at (x ∷ xs) ys = let e : at + suc (length xs) ≡ suc at + length xs = omega arith in rw e (sets-append (set l at x) (suc at) xs ys)

into-behind : (l : List ℤ) (at : ℕ) (ks : List ℤ) (w : Walked) → into l at (behind ks w) ≡ into (sets l at ks) (at + length ks) w
unfolding into behind
into-behind l at ks crooked = refl
into-behind l at ks (walked left more) =
    let e : at + (length ks + length more) ≡ at + length ks + length more = omega arith in
    rw (length-append, e, sets-append) refl

-- the second part, from where the first stands
unfoldable pub onward : Stands → (ℕ → Walked) → Stands
onward lost next = lost
onward (stands leaves at l) next = into l at (next leaves)

into_then : (l : List ℤ) (at : ℕ) (w : Walked) (next : ℕ → Walked) → into l at (and_then w next) ≡ onward (into l at w) next
unfolding into and_then onward
into_then l at crooked next = refl
into_then l at (walked leaves ks) next = into-behind l at ks (next leaves)

-- with both children found, the left one's part and then the right one's, a level lower
module _ (used : ℕ) (ns : List ℕ) (i : Phase) (x : NodeNo) (leaves levels below : ℕ) {a b : NodeNo} (h : is_internal ns x ≡ true) (k : levels ≡ suc below) (e : read_child used ns x true i ≡ Some a) (f : read_child used ns x false i ≡ Some b) (l : List ℤ) (at : ℕ) where
  both_parts : into l at (walk levels used ns i x leaves) ≡ onward (into l at (walk below used ns i a leaves)) (walk below used ns i b)
  unfolding to_child
  both_parts =
      let d : levels - 1 ≡ below = omega arith in
      rw (goes_down used ns i x leaves levels h (λ z. omega arith), e, f, d) (into_then l at _ _)

  pub first_lost : lost ≡ into l at (walk below used ns i a leaves) → lost ≡ into l at (walk levels used ns i x leaves)
  unfolding onward
  first_lost g = rw (both_parts, ← g) refl

  pub second_behind : {more next : ℕ} {out : List ℤ} → stands more next out ≡ into l at (walk below used ns i a leaves) → into out next (walk below used ns i b more) ≡ into l at (walk levels used ns i x leaves)
  unfolding onward
  second_behind g = rw (both_parts, ← g) refl

-- ---- a leaf that may still be met

module _ (ns : List ℕ) (x : NodeNo) (l : List ℤ) (at : ℕ) where
  pub no_leaf : (leaves : ℕ) → leaves ≡ 0 → into l at (at_leaf ns x leaves) ≡ lost
  unfolding into at_leaf
  no_leaf leaves h = rw h refl

  pub leaf_finite : (leaves : ℕ) → (leaves ≡ 0 → ⊥) → (rank_at ns x).class ≡ 0 → into l at (at_leaf ns x leaves) ≡ stands (leaves - 1) (at + 1) (set l at (number_of (record { 0 = (rank_at ns x).word })))
  unfolding into at_leaf leaf_keys pick
  leaf_finite zero h k = absurd (h refl)
  leaf_finite (suc left) h k = let e : suc left - 1 ≡ left = omega arith in rw (eq-eqb _ _ k, e) refl

  pub leaf_infinite : (leaves : ℕ) → (leaves ≡ 0 → ⊥) → ((rank_at ns x).class ≡ 0 → ⊥) → into l at (at_leaf ns x leaves) ≡ stands (leaves - 1) at l
  unfolding into at_leaf leaf_keys pick
  leaf_infinite zero h k = absurd (h refl)
  leaf_infinite (suc left) h k =
      let e : suc left - 1 ≡ left = omega arith in
      let f : at + 0 ≡ at = omega arith in
      rw (ne_eqb _ _ k, e, f) refl

-- ---- places

within-fits : (l out : List ℤ) (at n more next : ℕ) (w : Walked) → stands more next out ≡ into l at w → Within n w → next + more ≤ at + n
unfolding into Within
within-fits l out at n more next crooked e h = absurd (let z : ◌≡◌ {A = ℕ} 0 1 = cc in omega arith)
within-fits l out at n more next (walked left ks) e h =
    let f : more ≡ left = cc in
    let g : next ≡ at + length ks = cc in
    omega arith

-- the next place and the leaves that may still be met fit where the first place and all leaves did
pub fits_still : (l out : List ℤ) (at more next levels used : ℕ) (ns : List ℕ) (i : Phase) (x : NodeNo) (leaves : ℕ) → stands more next out ≡ into l at (walk levels used ns i x leaves) → next + more ≤ at + leaves
fits_still l out at more next levels used ns i x leaves e = within-fits l out at leaves more next (walk levels used ns i x leaves) e (walk-within levels used ns i x leaves)
