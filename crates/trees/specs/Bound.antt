-- A scan meets no more nodes than there are of their kind: a bound on its visits, and on its pending and found lists.
use Rattle.std.specs.Prelude.{◌≡◌, List, ◌∷◌, Bool, true, false, ◌&&◌, not, ℕ, ◌≤◌, ◌<◌, leb, length}
use Rattle.std.proofs.Common.{inl, inr, le-leb}
use Rattle.trees.specs.Members.{Mem, Distinct, All}
use Rattle.trees.specs.Count.{count, distinct_count}
use Rattle.trees.specs.Version.{Store}
use Rattle.trees.specs.Scanning.{Stand, at, Scanning, current_new}

-- an internal node of phase i or earlier
unfoldable pub early : Store → ℕ → ℕ → Bool
early S i n = not (S.leaf n) && leb (S.phase n) i

pub is_early : (S : Store) (i n : ℕ) → S.leaf n ≡ false → S.phase n ≤ i → early S i n ≡ true
unfolding early
is_early S i n inner low = rw (inner, le-leb (S.phase n) i low)

module _ (used : ℕ) {S : Store} {i : ℕ} {a : Bool} {us vs ls : List ℕ} where
  -- internal nodes: xs is vs, or us
  pub visited_most : {stand : Stand} (xs : List ℕ) → Scanning S i a stand us vs ls → Distinct xs → All (λ n. Mem n vs) xs → All (λ n. n < used) xs → length xs ≤ count used (early S i)
  visited_most xs G d of below = distinct_count used (early S i) xs d below (λ n m. is_early S i n (G.been.inner n (of n m)) (G.been.low n (of n m)))

  pub visiting_most : {cur : ℕ} (xs : List ℕ) → Scanning S i a (at cur) us vs ls → S.leaf cur ≡ false → Distinct xs → All (λ n. Mem n vs) xs → All (λ n. n < used) (cur ∷ xs) → length xs < count used (early S i)
  visiting_most {cur} xs G inner d of below = distinct_count used (early S i) (cur ∷ xs) (λ m. (current_new G).0 (of cur m), d) below
      (λ n. elim [ inl e ↦ rw e (is_early S i cur inner G.reads.0) | inr m ↦ is_early S i n (G.been.inner n (of n m)) (G.been.low n (of n m)) ])

  -- leaves
  pub seeing_most : {cur : ℕ} → Scanning S i a (at cur) us vs ls → S.leaf cur ≡ true → All (λ n. n < used) (cur ∷ ls) → length ls < count used S.leaf
  seeing_most {cur} G leaf below = distinct_count used S.leaf (cur ∷ ls) ((current_new G).2, G.been.distinct_leaves) below (λ n. elim [ inl e ↦ rw e leaf | inr m ↦ G.been.leaves n m ])
