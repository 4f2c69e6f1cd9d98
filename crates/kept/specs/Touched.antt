-- A turn changes at most one changeable word of what was used before it; all that it creates is new.
use Rattle.std.specs.Prelude.{ℕ, ◌+◌, ◌≤◌, ◌<◌, ◌≡◌, refl, ◌≢◌, List, Bool, true, false, ltb, Option, None, Some}
use Rattle.std.proofs.Common.{ap, ◌∙◌, arith}
use Rattle.std.proofs.Math.Decide.{ℕ_discrete}
use Rattle.laws.specs.Choice.{fork}
use Rattle.shapes.specs.declared.NodeNo.{NodeNo}
use Rattle.shapes.specs.declared.RecordNo.{RecordNo}
use Rattle.shapes.specs.declared.Phase.{Phase}
use Rattle.shapes.specs.declared.Key.{Key}
use Rattle.shapes.specs.declared.Rank.{Rank}
use Rattle.shapes.specs.declared.Update.{Update}
use Rattle.shapes.specs.declared.Effect.{Effect}
use Rattle.shapes.specs.declared.Effect.TheVariants as effect
use Rattle.tables.specs.Names.{node, record_no, root, finite, value, update}
use Rattle.tables.specs.Nodes.{rank_at, child_at, update_at, set_child, new_node}
use Rattle.tables.specs.NodeWrites.{child_set_child-node, child_set_child-side, child_set_child_side', update-set_child, child_set_update, update-set_update-node, child_new_node-node, update-new_node-node}
use Rattle.tables.specs.Records.{state_at}
use Rattle.tables.specs.RecordWrites.{state_set_state_record, state_new_record_record}
use Rattle.tables.specs.World.{Tables}
use Rattle.steps.specs.Apply.{bumped, taken, top_of, three_nodes, copy_of, taken_record, apply}

-- 01: Counter, a left or right child, an update word, a record's state
pub data Changeable : Type 0 where
  counter : Changeable
  child : NodeNo → Bool → Changeable
  word : NodeNo → Changeable
  state : RecordNo → Changeable
  none : Changeable

-- the one that an effect changes
unfoldable pub touched : Effect → Changeable
touched effect.Nothing = none
touched effect.Bump = counter
touched (effect.TakeThree k l q) = none
touched (effect.TakeCopy x p q) = none
touched (effect.CopyChild x left c) = child x left
touched (effect.Fill r f) = state r
touched (effect.Freeze x u) = word x
touched (effect.SetState r v) = state r
touched (effect.Link x left c) = child x left

-- what stands there
unfoldable pub value_at : Tables → Changeable → Update
value_at s counter = update s.totals.counter (record_no 0)
value_at s (child x left) = update (child_at s.nodes x left).0 (record_no 0)
value_at s (word x) = update_at s.nodes x
value_at s (state r) = update (state_at s.records r) (record_no 0)
value_at s none = update 0 (record_no 0)

-- it belongs to what is used
abbrev pub UsedWord : Tables → Changeable → Type 0
UsedWord s counter = Unit {0}
UsedWord s (child x left) = x.0 < s.totals.nodes
UsedWord s (word x) = x.0 < s.totals.nodes
UsedWord s (state r) = r.0 < s.totals.records
UsedWord s none = Unit {0}

-- ---- new nodes and a new record leave the old ones alone

module _ (ns ms : List ℕ) (u : ℕ) where
  -- children and update words below u are those of before
  abbrev Same : Type 0
  Same = (y : NodeNo) → y.0 < u → ((left : Bool) → child_at ms y left ≡ child_at ns y left) × (update_at ms y ≡ update_at ns y)

new_same : (ns : List ℕ) (u j kind : ℕ) (k : Rank) (q : Phase) (prev : Option NodeNo) (left right : NodeNo) → u ≤ j → Same ns (new_node ns (node j) kind k q prev left right) u
new_same ns u j kind k q prev left right le y l =
    let ne : y.0 ≢ j = λ e. omega arith in
    (child_new_node-node ns (node j) kind k q prev left right y ne, update-new_node-node ns (node j) kind k q prev left right y ne)

same_then : (ns ms ks : List ℕ) (u : ℕ) → Same ns ms u → Same ms ks u → Same ns ks u
same_then ns ms ks u a b y l = (λ s. (b y l).0 s ∙ (a y l).0 s, (b y l).1 ∙ (a y l).1)

three_same : (ns : List ℕ) (u : ℕ) (k : Key) (l : NodeNo) (q : Phase) → Same ns (three_nodes ns u k l q) u
unfolding three_nodes top_of
three_same ns u k l q = fork (λ ms. Same ns ms u) (ltb k.0 (value (rank_at ns l))) (λ _. all _ _ _) (λ _. all _ _ _)
  where
    all : (b : Rank) (x y : NodeNo) → Same ns (new_node (new_node (new_node ns (node u) 0 (finite k) q None root root) (node (u + 1)) 0 (rank_at ns l) q None root root) (node (u + 2)) 1 b q (Some l) x y) u
    all b x y = same_then _ _ _ u (same_then _ _ _ u (new_same ns u u 0 (finite k) q None root root (omega arith)) (new_same _ u (u + 1) 0 (rank_at ns l) q None root root (omega arith))) (new_same _ u (u + 2) 1 b q (Some l) x y (omega arith))

copy_same : (ns : List ℕ) (u : ℕ) (x p : NodeNo) (q : Phase) → Same ns (copy_of ns u x p q) u
unfolding copy_of
copy_same ns u x p q = new_same ns u u _ _ q (Some p) root root (omega arith)

taken_same : (rs : List ℕ) (u : ℕ) (r : RecordNo) → r.0 < u → state_at (taken_record rs u) r ≡ state_at rs r
unfolding taken_record
taken_same rs u r l = state_new_record_record rs (record_no u) _ _ r (λ e. let z : r.0 ≡ u = e in omega arith)

-- ---- one child word

child_other : (ns : List ℕ) (x : NodeNo) (left : Bool) (c y : NodeNo) (side : Bool) → child y side ≢ child x left → child_at (set_child ns x left c) y side ≡ child_at ns y side
child_other ns x left c y side ne = elim (ℕ_discrete y.0 x.0) [
  | yes e ↦ sides left side (ap node e) ne
  | no e ↦ child_set_child-node ns x left c y side e
]
  where
    sides : (left side : Bool) → y ≡ x → child y side ≢ child x left → child_at (set_child ns x left c) y side ≡ child_at ns y side
    sides true true e n = absurd (n (ap (λ z. child z true) e))
    sides false false e n = absurd (n (ap (λ z. child z false) e))
    sides true false e n = child_set_child-side ns x c y
    sides false true e n = child_set_child_side' ns x c y

word_other : (x y : NodeNo) → word y ≢ word x → y.0 ≢ x.0
word_other x y ne e = ne (ap (λ n. word (node n)) e)

state_other : (r q : RecordNo) → state q ≢ state r → q.0 ≢ r.0
state_other r q ne e = ne (ap (λ n. state (record_no n)) e)

-- ---- every effect

first_of : {a b : NodeNo} → a ≡ b → update a.0 (record_no 0) ≡ update b.0 (record_no 0)
first_of e = ap (λ x. update x.0 (record_no 0)) e

pub one_word : (e : Effect) (s : Tables) (c : Changeable) → UsedWord s c → c ≢ touched e → value_at (apply e s) c ≡ value_at s c
unfolding apply value_at touched bumped taken
one_word effect.Nothing s c l ne = refl
one_word effect.Bump s counter l ne = absurd (ne refl)
one_word effect.Bump s (child x left) l ne = refl
one_word effect.Bump s (word x) l ne = refl
one_word effect.Bump s (state r) l ne = refl
one_word effect.Bump s none l ne = refl
one_word (effect.TakeThree k l q) s counter u ne = refl
one_word (effect.TakeThree k l q) s (child x left) u ne = first_of ((three_same s.nodes s.totals.nodes k l q x u).0 left)
one_word (effect.TakeThree k l q) s (word x) u ne = (three_same s.nodes s.totals.nodes k l q x u).1
one_word (effect.TakeThree k l q) s (state r) u ne = ap (λ v. update v (record_no 0)) (taken_same s.records s.totals.records r u)
one_word (effect.TakeThree k l q) s none u ne = refl
one_word (effect.TakeCopy y p q) s counter u ne = refl
one_word (effect.TakeCopy y p q) s (child x left) u ne = first_of ((copy_same s.nodes s.totals.nodes y p q x u).0 left)
one_word (effect.TakeCopy y p q) s (word x) u ne = (copy_same s.nodes s.totals.nodes y p q x u).1
one_word (effect.TakeCopy y p q) s (state r) u ne = ap (λ v. update v (record_no 0)) (taken_same s.records s.totals.records r u)
one_word (effect.TakeCopy y p q) s none u ne = refl
one_word (effect.CopyChild y side c) s counter u ne = refl
one_word (effect.CopyChild y side c) s (child x left) u ne = first_of (child_other s.nodes y side c x left ne)
one_word (effect.CopyChild y side c) s (word x) u ne = update-set_child s.nodes y side c x
one_word (effect.CopyChild y side c) s (state r) u ne = refl
one_word (effect.CopyChild y side c) s none u ne = refl
one_word (effect.Fill q f) s counter u ne = refl
one_word (effect.Fill q f) s (child x left) u ne = refl
one_word (effect.Fill q f) s (word x) u ne = refl
one_word (effect.Fill q f) s (state r) u ne = ap (λ v. update v (record_no 0)) (state_new_record_record s.records q _ f r (state_other q r ne))
one_word (effect.Fill q f) s none u ne = refl
one_word (effect.Freeze y v) s counter u ne = refl
one_word (effect.Freeze y v) s (child x left) u ne = first_of (child_set_update s.nodes y v x left)
one_word (effect.Freeze y v) s (word x) u ne = update-set_update-node s.nodes y v x (word_other y x ne)
one_word (effect.Freeze y v) s (state r) u ne = refl
one_word (effect.Freeze y v) s none u ne = refl
one_word (effect.SetState q v) s counter u ne = refl
one_word (effect.SetState q v) s (child x left) u ne = refl
one_word (effect.SetState q v) s (word x) u ne = refl
one_word (effect.SetState q v) s (state r) u ne = ap (λ v. update v (record_no 0)) (state_set_state_record s.records q v r (state_other q r ne))
one_word (effect.SetState q v) s none u ne = refl
one_word (effect.Link y side c) s counter u ne = refl
one_word (effect.Link y side c) s (child x left) u ne = first_of (child_other s.nodes y side c x left ne)
one_word (effect.Link y side c) s (word x) u ne = update-set_child s.nodes y side c x
one_word (effect.Link y side c) s (state r) u ne = refl
one_word (effect.Link y side c) s none u ne = refl
