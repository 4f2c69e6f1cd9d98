-- A walk lists no more keys than leaves may be met: the keys met and the leaves that may still be met are no more than those at its start.
use Rattle.std.specs.Prelude.{ℕ, zero, suc, ◌+◌, ◌≤◌, List, true, false, length, ℤ, eqb, Option, None, Some}
use Rattle.std.proofs.Common.{arith, length-append}
use Rattle.laws.specs.Choice.{fork}
use Rattle.shapes.specs.declared.NodeNo.{NodeNo}
use Rattle.shapes.specs.declared.Phase.{Phase}
use Rattle.shapes.specs.declared.Rank.{Rank}
use Rattle.tables.specs.Nodes.{is_internal, rank_at}
use Rattle.tables.specs.Versions.{read_child}
use Rattle.listing.specs.Listing.{Walked, crooked, walked, leaf_keys, at_leaf, behind, and_then, to_child, walk}
use Rattle.listing.specs.Leaves.{Within}

crooked_within : (n : ℕ) → Within n crooked
unfolding Within
crooked_within n = tt

few_keys : (k : Rank) → length (leaf_keys k) ≤ 1
unfolding leaf_keys
few_keys k = fork (λ (ks : List ℤ). length ks ≤ 1) (eqb k.class 0) (λ h. omega arith) (λ h. omega arith)

leaf_within : (ns : List ℕ) (x : NodeNo) (leaves : ℕ) → Within leaves (at_leaf ns x leaves)
unfolding Within at_leaf
leaf_within ns x zero = tt
leaf_within ns x (suc left) = omega (arith, few_keys (rank_at ns x))

behind-within : (n m : ℕ) (ks : List ℤ) (w : Walked) → length ks + m ≤ n → Within m w → Within n (behind ks w)
unfolding Within behind
behind-within n m ks crooked h k = tt
behind-within n m ks (walked left more) h k = simp length-append (omega arith)

then_within : (n : ℕ) (w : Walked) (next : ℕ → Walked) → Within n w → ((m : ℕ) → Within m (next m)) → Within n (and_then w next)
unfolding Within and_then
then_within n crooked next h k = tt
then_within n (walked left ks) next h k = behind-within n left ks (next left) h (k left)

child_within : (n : ℕ) (m : Option NodeNo) (go : NodeNo → Walked) → ((c : NodeNo) → Within n (go c)) → Within n (to_child m go)
unfolding Within to_child
child_within n None go h = tt
child_within n (Some c) go h = h c

pub walk-within : (levels used : ℕ) (ns : List ℕ) (i : Phase) (x : NodeNo) (leaves : ℕ) → Within leaves (walk levels used ns i x leaves)
unfolding walk
walk-within zero used ns i x leaves = fork (Within leaves) (is_internal ns x) (λ h. crooked_within leaves) (λ h. leaf_within ns x leaves)
walk-within (suc levels) used ns i x leaves = fork (Within leaves) (is_internal ns x) (λ h. child_within leaves (read_child used ns x true i) _ (λ a. child_within leaves (read_child used ns x false i) _ (λ b. then_within leaves _ _ (walk-within levels used ns _ _ leaves) (walk-within levels used ns _ _)))) (λ h. leaf_within ns x leaves)
