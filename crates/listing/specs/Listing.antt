-- 01, 'Version listing': the finite keys of the leaves reached from the Root through version-i children, from left to right.
use Rattle.std.specs.Prelude.{ℕ, zero, suc, List, [], ◌∷◌, ◌++◌, true, false, ◌&&◌, length, drop, ℤ, leb, eqb, Option, None, Some}
use Rattle.laws.specs.Choice.{pick}
use Rattle.shapes.specs.declared.NodeNo.{NodeNo}
use Rattle.shapes.specs.declared.Phase.{Phase}
use Rattle.shapes.specs.declared.Rank.{Rank}
use Rattle.shapes.specs.declared.Refusal.{Refusal}
use Rattle.shapes.specs.declared.Refusal.TheVariants as refusal
use Rattle.tables.specs.Names.{root, number_of}
use Rattle.tables.specs.Nodes.{is_internal, rank_at}
use Rattle.tables.specs.Versions.{read_child}
use Rattle.tables.specs.World.{World, totals_of}
use Rattle.sound.specs.Sound.{sound_of}

-- a part of the walk: crooked, or how many leaves may still be met, and the keys of those that were
pub data Walked : Type 0 where
  crooked : Walked
  walked : ℕ → List ℤ → Walked

-- only a finite key is listed
unfoldable pub leaf_keys : Rank → List ℤ
leaf_keys k = pick (eqb k.class 0) (number_of (record { 0 = k.word }) ∷ []) []

-- more leaves than may still be met: crooked
unfoldable pub at_leaf : List ℕ → NodeNo → ℕ → Walked
at_leaf ns x zero = crooked
at_leaf ns x (suc left) = walked left (leaf_keys (rank_at ns x))

-- one part, then the next with the leaves that the first left
unfoldable pub behind : List ℤ → Walked → Walked
behind ks crooked = crooked
behind ks (walked left more) = walked left (ks ++ more)

unfoldable pub and_then : Walked → (ℕ → Walked) → Walked
and_then crooked next = crooked
and_then (walked left ks) next = behind ks (next left)

unfoldable pub to_child : Option NodeNo → (NodeNo → Walked) → Walked
to_child None go = crooked
to_child (Some c) go = go c

-- so many levels may still be gone down, and so many leaves met
unfoldable pub walk : ℕ → ℕ → List ℕ → Phase → NodeNo → ℕ → Walked
walk zero used ns i x leaves = pick (is_internal ns x) crooked (at_leaf ns x leaves)
walk (suc levels) used ns i x leaves =
    let go = walk levels used ns i in
    let below = to_child (read_child used ns x true i) (λ a. to_child (read_child used ns x false i) (λ b. and_then (go a leaves) (go b))) in
    pick (is_internal ns x) below (at_leaf ns x leaves)

-- what a listing comes to: how many keys, or a refusal; and the lent list
pub data Listed : Type 0 where
  listed : ℕ → List ℤ → Listed
  refused : Refusal → List ℤ → Listed

-- places behind the keys keep their contents; a refusal leaves the list as it was
unfoldable pub into_list : List ℤ → Walked → Listed
into_list l crooked = refused refusal.Crooked l
into_list l (walked left ks) = listed (length ks) (ks ++ drop (length ks) l)

-- refusal 1: tables not sound, or a list shorter than N; then 7
unfoldable pub list_of : World → Phase → List ℤ → Listed
list_of s i l =
    let used = (totals_of s).nodes in
    let result = into_list l (walk used used s.nodes i root used) in
    pick (sound_of s && leb (totals_of s).n (length l)) result (refused refusal.Table l)
