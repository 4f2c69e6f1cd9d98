-- 01, 'Sound means': one test for each clause, and the whole.
use Rattle.std.specs.Prelude.{ℕ, suc, ◌-◌, List, [], ◌∷◌, Bool, true, false, ◌&&◌, ◌||◌, get_or, leb, eqb, ltb, Option, None, Some}
use Rattle.laws.specs.Choice.{pick}
use Rattle.laws.specs.Tests.{all, every}
use Rattle.shapes.specs.Numbers.{last_phase}
use Rattle.shapes.specs.declared.NodeNo.{NodeNo}
use Rattle.shapes.specs.declared.RecordNo.{RecordNo}
use Rattle.shapes.specs.declared.Phase.{Phase}
use Rattle.shapes.specs.declared.Rank.{Rank}
use Rattle.shapes.specs.declared.Update.{Update}
use Rattle.shapes.specs.declared.Entry.{Entry}
use Rattle.shapes.specs.declared.Totals.{Totals}
use Rattle.shapes.specs.declared.Locals.{Locals}
use Rattle.shapes.specs.declared.Kind.TheVariants as kind
use Rattle.shapes.specs.declared.Place.{Place}
use Rattle.shapes.specs.declared.Place.TheVariants as place
use Rattle.shapes.specs.declared.Operation.TheVariants.{Insert, Delete, Find, Scan}
use Rattle.shapes.specs.declared.Operation.{Operation}
use Rattle.tables.specs.Names.{node, record_no, root, dummy}
use Rattle.tables.specs.Nodes.{kind_at, is_internal, rank_at, phase_at, prev_at, child_at, update_at}
use Rattle.tables.specs.Records.{record_width, record_word, record_row, aborted, unfilled, count_at, state_at, par_at, old_child_at, new_child_at, seq_at, entry_at}
use Rattle.tables.specs.World.{Tables, World, totals_of, tables_of, worker_at, pending_at}
use Rattle.tables.specs.Fresh.{between, sizes_ok, lent_ok}
use Rattle.sound.specs.Homes.{listed, attempt_home, scan_home, in_list}

-- ---- numbers that refer to used ones, phases no later than Counter

unfoldable pub used_node : Totals → NodeNo → Bool
used_node t x = ltb x.0 t.nodes

unfoldable pub used_maybe : Totals → Option NodeNo → Bool
used_maybe t None = true
used_maybe t (Some x) = used_node t x

unfoldable pub used_record : Totals → RecordNo → Bool
used_record t r = ltb r.0 t.records

unfoldable pub word_ok : Totals → Update → Bool
word_ok t u = leb u.mark 1 && used_record t u.info

unfoldable pub phase_ok : Totals → Phase → Bool
phase_ok t q = leb q.0 t.counter

-- from 3 to N nodes are used and from 1 to M records; Counter is at most 65,535
unfoldable pub used_ok : Totals → Bool
used_ok t = all (between 3 t.nodes t.n ∷ between 1 t.records t.m ∷ leb t.counter last_phase ∷ [])

-- ---- Root and dummy as fresh but for Root's children and update word

unfoldable pub is_absent : Option NodeNo → Bool
is_absent None = true
is_absent (Some x) = false

unfoldable pub root_ok : List ℕ → Bool
root_ok ns = all (eqb (kind_at ns root) 1 ∷ eqb (rank_at ns root).class 2 ∷ eqb (rank_at ns root).word 0 ∷ eqb (phase_at ns root).0 0 ∷ is_absent (prev_at ns root) ∷ [])

unfoldable pub dummy_ok : List ℕ → Bool
dummy_ok rs = every record_width (λ f. eqb (record_word rs dummy f) (get_or (record_row aborted unfilled) f 0))

-- ---- nodes

-- a finite key, or an infinite one with no word beside it
unfoldable pub rank_ok : Rank → Bool
rank_ok k = leb k.class 2 && (eqb k.class 0 || eqb k.word 0)

-- absent or a smaller number than the node's own
unfoldable pub prev_ok : ℕ → Option NodeNo → Bool
prev_ok n None = true
prev_ok n (Some x) = ltb x.0 n

-- every internal node has two children among the used nodes and no leaf has any
unfoldable pub children_ok : Totals → List ℕ → NodeNo → Bool
children_ok t ns x =
    pick (is_internal ns x)
    (used_node t (child_at ns x true) && used_node t (child_at ns x false))
    (eqb (child_at ns x true).0 0 && eqb (child_at ns x false).0 0)

unfoldable pub node_ok : Totals → List ℕ → ℕ → Bool
node_ok t ns n =
    let x = node n in
    all (leb (kind_at ns x) 1 ∷ rank_ok (rank_at ns x) ∷ phase_ok t (phase_at ns x) ∷ prev_ok n (prev_at ns x) ∷ word_ok t (update_at ns x) ∷ children_ok t ns x ∷ [])

-- ---- records

-- a node, its old word and whether it is to be marked
unfoldable pub entry_ok : Totals → Entry → Bool
entry_ok t e = all (used_node t e.node ∷ word_ok t e.old ∷ leb e.mark 1 ∷ [])

-- unfilled, or 2 or 4 nodes are listed and the parent is internal
unfoldable pub count_ok : List ℕ → NodeNo → ℕ → Bool
count_ok ns par c = eqb c 0 || ((eqb c 2 || eqb c 4) && is_internal ns par)

unfoldable pub record_ok : Tables → ℕ → Bool
record_ok s n =
    let r = record_no n in
    let rs = s.records in
    all (count_ok s.nodes (par_at rs r) (count_at rs r) ∷ leb (state_at rs r) aborted ∷ used_node s.totals (par_at rs r) ∷ used_node s.totals (old_child_at rs r) ∷ used_node s.totals (new_child_at rs r) ∷ phase_ok s.totals (seq_at rs r) ∷ every (count_at rs r) (λ i. entry_ok s.totals (entry_at rs r (suc i))) ∷ [])

-- ---- workers

-- all numbers in hand, at whatever place
unfoldable pub hand_ok : Totals → Locals → Bool
hand_ok t v = all (phase_ok t v.seq ∷ used_maybe t v.gp ∷ used_node t v.p ∷ used_node t v.l ∷ word_ok t v.gpup ∷ word_ok t v.pup ∷ word_ok t v.lup ∷ word_ok t v.sup ∷ word_ok t v.up ∷ used_node t v.sibling ∷ used_node t v.made ∷ used_record t v.info ∷ [])

-- a worker's place in a list lies within that list: EXECUTE's old words, a record's nodes, the pending nodes
unfoldable pub within_ok : List ℕ → ℕ → Locals → ℕ → Place → Bool
within_ok rs k v n place.Counter74 = true
within_ok rs k v n place.Search39 = true
within_ok rs k v n (place.Link a s) = true
within_ok rs k v n place.Word66 = true
within_ok rs k v n place.Grand66 = true
within_ok rs k v n place.Leaf164 = true
within_ok rs k v n place.Sibling182 = true
within_ok rs k v n place.CopyLeft = true
within_ok rs k v n place.CopyRight = true
within_ok rs k v n place.Word189 = true
within_ok rs k v n place.Leaf190 = true
within_ok rs k v n place.Frozen97 = between 1 v.i k
within_ok rs k v n place.State98 = between 1 v.i k
within_ok rs k v n place.Freeze103 = true
within_ok rs k v n (place.Help s b) = pick (in_list s) (between 1 v.i (count_at rs v.info)) true
within_ok rs k v n place.Counter130 = true
within_ok rs k v n place.Bump131 = true
within_ok rs k v n place.Word139 = true
within_ok rs k v n place.State140 = true
within_ok rs k v n place.Child141 = true
within_ok rs k v n place.Left144 = ltb 0 n

-- the place is one of the operation's
unfoldable pub condition_ok : List ℕ → Locals → ℕ → Option Operation → Bool
condition_ok rs v n None = true
condition_ok rs v n (Some (Insert k q)) = attempt_home kind.Insert q && within_ok rs (listed kind.Insert) v n q
condition_ok rs v n (Some (Delete k q)) = attempt_home kind.Delete q && within_ok rs (listed kind.Delete) v n q
condition_ok rs v n (Some (Find k q)) = attempt_home kind.Find q && within_ok rs (listed kind.Find) v n q
condition_ok rs v n (Some (Scan a b q)) = scan_home q && within_ok rs 0 v n q

-- pending and found counts are at most N, and pending nodes are used
unfoldable pub lists_ok : World → ℕ → Bool
lists_ok s w =
    let k = worker_at s w in
    all (leb k.pending (totals_of s).n ∷ leb k.found (totals_of s).n ∷ every k.pending (λ i. used_node (totals_of s) (pending_at s w i)) ∷ [])

unfoldable pub worker_ok : World → ℕ → Bool
worker_ok s w =
    let k = worker_at s w in
    all (lists_ok s w ∷ hand_ok (totals_of s) k.hand ∷ condition_ok s.records k.hand k.pending k.operation ∷ [])

-- ---- the whole

unfoldable pub sound_of : World → Bool
sound_of s =
    let t = totals_of s in
    all (sizes_ok t.n t.m t.p ∷ lent_ok t.n t.m t.p s ∷ used_ok t ∷ root_ok s.nodes ∷ dummy_ok s.records ∷
    every t.nodes (node_ok t s.nodes) ∷ every (t.records - 1) (λ i. record_ok (tables_of s) (suc i)) ∷ every t.p (worker_ok s) ∷ [])
