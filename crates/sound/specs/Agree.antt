-- Test and meaning of 'sound' agree, clause by clause.
use Rattle.std.specs.Prelude.{ℕ, zero, suc, ◌*◌, ◌-◌, ◌≤◌, ◌<◌, ◌≡◌, refl, ◌⊎◌, List, Bool, true, false, length, get_or, Option, None, Some}
use Rattle.std.proofs.Common.{sym, ap, subst, inl, inr, arith}
use Rattle.std.proofs.lemmas.Bool.{false≢true}
use Rattle.laws.specs.Choice.{pick}
use Rattle.laws.specs.Tests.{Says, says_lt, says_le, says_eq, says_and, says_or, says-pick, says_as, says_yes, says_itself, every, says_none, says_more, says-every}
use Rattle.shapes.specs.declared.NodeNo.{NodeNo}
use Rattle.shapes.specs.declared.RecordNo.{RecordNo}
use Rattle.shapes.specs.declared.Phase.{Phase}
use Rattle.shapes.specs.declared.Rank.{Rank}
use Rattle.shapes.specs.declared.Update.{Update}
use Rattle.shapes.specs.declared.Entry.{Entry}
use Rattle.shapes.specs.declared.Filling.{Filling}
use Rattle.shapes.specs.declared.Totals.{Totals}
use Rattle.shapes.specs.declared.Locals.{Locals}
use Rattle.shapes.specs.declared.Place.{Place}
use Rattle.shapes.specs.declared.Place.TheVariants as place
use Rattle.shapes.specs.declared.Operation.TheVariants.{Insert, Delete, Find, Scan}
use Rattle.shapes.specs.declared.Operation.{Operation}
use Rattle.tables.specs.Names.{node, record_no, root, dummy}
use Rattle.tables.specs.Rows.{HasRows}
use Rattle.tables.specs.Nodes.{node_width, is_internal, child_at, update_at}
use Rattle.tables.specs.NodeWrites.{fixed_at}
use Rattle.tables.specs.Records.{record_width, record_word, record_row, entry_row, aborted, unfilled, count_at, state_at, par_at, old_child_at, new_child_at, seq_at, entry_at}
use Rattle.tables.specs.RecordWrites.{filling_at}
use Rattle.tables.specs.World.{Tables, World, totals_of, tables_of, worker_at, pending_at}
use Rattle.tables.specs.Fresh.{between, sizes_ok, lent_ok}
use Rattle.sound.specs.Homes.{in_list}
use Rattle.sound.specs.Sound.{used_node, used_maybe, used_record, word_ok, phase_ok, used_ok, is_absent, root_ok, dummy_ok, rank_ok, prev_ok, children_ok, node_ok, entry_ok, count_ok, record_ok, hand_ok, within_ok, condition_ok, lists_ok, worker_ok, sound_of}
use Rattle.sound.specs.Meaning.{WordSound, MaybeSound, SizesSound, UsedSound, RankSound, PrevSound, NodeSound, RootSound, EntrySound, entry_of, CountSound, RecordSound, HandSound, Within, ConditionSound, WorkerSound, Sound}

-- ---- numbers

pub says-between : (a x b : ℕ) → Says (between a x b) ((a ≤ x) × (x ≤ b))
unfolding between
says-between a x b = says_and (says_le a x) (says_le x b)

pub says-used_node : (t : Totals) (x : NodeNo) → Says (used_node t x) (x.0 < t.nodes)
unfolding used_node
says-used_node t x = says_lt _ _

pub says-used_maybe : (t : Totals) (m : Option NodeNo) → Says (used_maybe t m) (MaybeSound t m)
unfolding used_maybe
says-used_maybe t None = says_yes
says-used_maybe t (Some x) = says-used_node t x

pub says-word : (t : Totals) (u : Update) → Says (word_ok t u) (WordSound t u)
unfolding word_ok used_record
says-word t u = says_as (says_and (says_le _ _) (says_lt _ _)) (λ h. record { type = h.0; info = h.1 }) (λ r. (r.type, r.info))

pub says-phase : (t : Totals) (q : Phase) → Says (phase_ok t q) (q.0 ≤ t.counter)
unfolding phase_ok
says-phase t q = says_le _ _

pub says_sizes : (n m p : ℕ) → Says (sizes_ok n m p) (SizesSound n m p)
unfolding sizes_ok
says_sizes n m p = says_as (says_more _ (says-between _ _ _) (says_more _ (says-between _ _ _) (says_more _ (says-between _ _ _) says_none)))
    (λ h. record { n_at_least = h.0.0; n_at_most = h.0.1; m_at_least = h.1.0.0; m_at_most = h.1.0.1; p_at_least = h.1.1.0.0; p_at_most = h.1.1.0.1 })
    (λ r. ((r.n_at_least, r.n_at_most), ((r.m_at_least, r.m_at_most), ((r.p_at_least, r.p_at_most), tt))))

pub says_used : (t : Totals) → Says (used_ok t) (UsedSound t)
unfolding used_ok
says_used t = says_as (says_more _ (says-between _ _ _) (says_more _ (says-between _ _ _) (says_more _ (says_le _ _) says_none)))
    (λ h. record { least_nodes = h.0.0; most_nodes = h.0.1; least_records = h.1.0.0; most_records = h.1.0.1; counter = h.1.1.0 })
    (λ r. ((r.least_nodes, r.most_nodes), ((r.least_records, r.most_records), (r.counter, tt))))

-- ---- nodes

says_absent : (m : Option NodeNo) → Says (is_absent m) (m ≡ None)
unfolding is_absent
says_absent None = record { out = λ e. refl; back = λ e. refl }
says_absent (Some x) = record { out = λ e. absurd (false≢true e); back = λ e. let z : ◌≡◌ {A = ℕ} 0 1 = cc in absurd (omega arith) }

pub says-root : (ns : List ℕ) → Says (root_ok ns) (RootSound (fixed_at ns root))
unfolding root_ok fixed_at
says-root ns = says_as (says_more _ (says_eq _ _) (says_more _ (says_eq _ _) (says_more _ (says_eq _ _) (says_more _ (says_eq _ _) (says_more _ (says_absent _) says_none)))))
    (λ h. record { kind = h.0; class = h.1.0; word = h.1.1.0; phase = h.1.1.1.0; prev = h.1.1.1.1.0 })
    (λ r. (r.kind, (r.class, (r.word, (r.phase, (r.prev, tt))))))

says_rank : (k : Rank) → Says (rank_ok k) (RankSound k)
unfolding rank_ok
says_rank k = says_as (says_and (says_le _ _) (says_or (says_eq _ _) (says_eq _ _))) (λ h. record { class = h.0; word = h.1 }) (λ r. (r.class, r.word))

says_prev : (n : ℕ) (m : Option NodeNo) → Says (prev_ok n m) (PrevSound n m)
unfolding prev_ok
says_prev n None = says_yes
says_prev n (Some x) = says_lt _ _

pub says-node : (t : Totals) (ns : List ℕ) (n : ℕ) → Says (node_ok t ns n) (NodeSound t n (fixed_at ns (node n)) (child_at ns (node n) true) (child_at ns (node n) false) (update_at ns (node n)))
unfolding node_ok fixed_at children_ok is_internal
says-node t ns n = says_as
    (says_more _ (says_le _ _) (says_more _ (says_rank _) (says_more _ (says-phase t _) (says_more _ (says_prev n _) (says_more _ (says-word t _)
    (says_more _ (says-pick (says_eq _ _) (says_and (says-used_node t _) (says-used_node t _)) (says_and (says_eq _ _) (says_eq _ _))) says_none))))))
    (λ h. record { kind = h.0; rank = h.1.0; phase = h.1.1.0; prev = h.1.1.1.0; update = h.1.1.1.1.0; parents = h.1.1.1.1.1.0.0; leaves = h.1.1.1.1.1.0.1 })
    (λ r. (r.kind, (r.rank, (r.phase, (r.prev, (r.update, ((r.parents, r.leaves), tt)))))))

-- ---- records

pub entry_of_lem : (rs : List ℕ) (r : RecordNo) (i : ℕ) → i < 4 → entry_at rs r (suc i) ≡ entry_of (filling_at rs r) (suc i)
unfolding entry_of filling_at
entry_of_lem rs r zero h = refl
entry_of_lem rs r (suc zero) h = refl
entry_of_lem rs r (suc (suc zero)) h = refl
entry_of_lem rs r (suc (suc (suc zero))) h = refl
entry_of_lem rs r (suc (suc (suc (suc k)))) h = absurd (omega arith)

says-entry : (t : Totals) (e : Entry) → Says (entry_ok t e) (EntrySound t e)
unfolding entry_ok
says-entry t e = says_as (says_more _ (says-used_node t _) (says_more _ (says-word t _) (says_more _ (says_le _ _) says_none)))
    (λ h. record { node = h.0; old = h.1.0; mark = h.1.1.0 })
    (λ r. (r.node, (r.old, (r.mark, tt))))

pub count_small : (ns : List ℕ) (f : Filling) → CountSound ns f → f.count ≤ 4
count_small ns f (inl e) = omega arith
count_small ns f (inr h) = both h.0
  where
    both : (f.count ≡ 2) ⊎ (f.count ≡ 4) → f.count ≤ 4
    both (inl e) = omega arith
    both (inr e) = omega arith

says-count : (ns : List ℕ) (f : Filling) → Says (count_ok ns f.par f.count) (CountSound ns f)
unfolding count_ok
says-count ns f = says_or (says_eq _ _) (says_and (says_or (says_eq _ _) (says_eq _ _)) (says_itself _))

module _ (t : Totals) (ns rs : List ℕ) (r : RecordNo) (c : CountSound ns (filling_at rs r)) where
  small : (i : ℕ) → i < (filling_at rs r).count → i < 4
  small i l = let most : (filling_at rs r).count ≤ 4 = count_small ns (filling_at rs r) c in omega arith

  entries_of : ((i : ℕ) → i < (filling_at rs r).count → EntrySound t (entry_at rs r (suc i))) → (i : ℕ) → i < (filling_at rs r).count → EntrySound t (entry_of (filling_at rs r) (suc i))
  entries_of h i l = subst (EntrySound t) (entry_of_lem rs r i (small i l)) (h i l)

  entries_at : ((i : ℕ) → i < (filling_at rs r).count → EntrySound t (entry_of (filling_at rs r) (suc i))) → (i : ℕ) → i < (filling_at rs r).count → EntrySound t (entry_at rs r (suc i))
  entries_at h i l = subst (EntrySound t) (sym (entry_of_lem rs r i (small i l))) (h i l)

pub says_record : (s : Tables) (n : ℕ) → Says (record_ok s n) (RecordSound s.totals s.nodes (filling_at s.records (record_no n)) (state_at s.records (record_no n)))
unfolding record_ok filling_at
says_record s n = says_as
    (says_more _ (says-count s.nodes (filling_at s.records (record_no n))) (says_more _ (says_le _ _) (says_more _ (says-used_node s.totals _) (says_more _ (says-used_node s.totals _) (says_more _ (says-used_node s.totals _) (says_more _ (says-phase s.totals _)
    (says_more _ (says-every _ _ (λ i. EntrySound s.totals (entry_at s.records (record_no n) (suc i))) (λ i. says-entry s.totals _)) says_none)))))))
    (λ h. record { count = h.0; state = h.1.0; par = h.1.1.0; old = h.1.1.1.0; new = h.1.1.1.1.0; seq = h.1.1.1.1.1.0; entries = entries_of s.totals s.nodes s.records (record_no n) h.0 h.1.1.1.1.1.1.0 })
    (λ g. (g.count, (g.state, (g.par, (g.old, (g.new, (g.seq, (entries_at s.totals s.nodes s.records (record_no n) g.count g.entries, tt))))))))

-- the dummy, word by word
pub says-dummy : (rs : List ℕ) → Says (dummy_ok rs) ((filling_at rs dummy ≡ unfilled) × (state_at rs dummy ≡ aborted))
unfolding dummy_ok every pick filling_at state_at count_at par_at old_child_at new_child_at seq_at entry_at record_row entry_row
says-dummy rs = record { out = λ e. filled ((says-every record_width _ Right (λ k. says_eq _ _)).out e); back = λ h. passes h.0 h.1 }
  where
    Right : ℕ → Type 0
    Right f = record_word rs dummy f ≡ get_or (record_row aborted unfilled) f 0

    filled : ((f : ℕ) → f < record_width → Right f) → (filling_at rs dummy ≡ unfilled) × (state_at rs dummy ≡ aborted)
    filled at = (simp (at 0 (omega arith), at 2 (omega arith), at 3 (omega arith), at 4 (omega arith), at 5 (omega arith), at 6 (omega arith), at 7 (omega arith), at 8 (omega arith), at 9 (omega arith), at 10 (omega arith), at 11 (omega arith), at 12 (omega arith), at 13 (omega arith), at 14 (omega arith), at 15 (omega arith), at 16 (omega arith), at 17 (omega arith), at 18 (omega arith), at 19 (omega arith), at 20 (omega arith), at 21 (omega arith)), at 1 (omega arith))

    passes : filling_at rs dummy ≡ unfilled → state_at rs dummy ≡ aborted → dummy_ok rs ≡ true
    passes e h =
        let word : (g : Filling → ℕ) → g (filling_at rs dummy) ≡ g unfilled = λ g. ap g e in
        simp (word (λ f. f.count), word (λ f. f.par.0), word (λ f. f.old.0), word (λ f. f.new.0), word (λ f. f.seq.0), word (λ f. f.first.node.0), word (λ f. f.first.old.mark), word (λ f. f.first.old.info.0), word (λ f. f.first.mark), word (λ f. f.second.node.0), word (λ f. f.second.old.mark), word (λ f. f.second.old.info.0), word (λ f. f.second.mark), word (λ f. f.third.node.0), word (λ f. f.third.old.mark), word (λ f. f.third.old.info.0), word (λ f. f.third.mark), word (λ f. f.fourth.node.0), word (λ f. f.fourth.old.mark), word (λ f. f.fourth.old.info.0), word (λ f. f.fourth.mark), h)

-- ---- workers

says-hand : (t : Totals) (v : Locals) → Says (hand_ok t v) (HandSound t v)
unfolding hand_ok used_record
says-hand t v = says_as
    (says_more _ (says-phase t _) (says_more _ (says-used_maybe t _) (says_more _ (says-used_node t _) (says_more _ (says-used_node t _) (says_more _ (says-word t _) (says_more _ (says-word t _) (says_more _ (says-word t _) (says_more _ (says-word t _) (says_more _ (says-word t _) (says_more _ (says-used_node t _) (says_more _ (says-used_node t _) (says_more _ (says_lt _ _) says_none))))))))))))
    (λ h. record { seq = h.0; gp = h.1.0; p = h.1.1.0; l = h.1.1.1.0; gpup = h.1.1.1.1.0; pup = h.1.1.1.1.1.0; lup = h.1.1.1.1.1.1.0; sup = h.1.1.1.1.1.1.1.0; up = h.1.1.1.1.1.1.1.1.0; sibling = h.1.1.1.1.1.1.1.1.1.0; made = h.1.1.1.1.1.1.1.1.1.1.0; info = h.1.1.1.1.1.1.1.1.1.1.1.0 })
    (λ r. (r.seq, (r.gp, (r.p, (r.l, (r.gpup, (r.pup, (r.lup, (r.sup, (r.up, (r.sibling, (r.made, (r.info, tt)))))))))))))

-- a test that counts only under a condition
says_under : (c b : Bool) (A : Type 0) → Says b A → Says (pick c b true) (c ≡ true → A)
unfolding pick
says_under true b A s = record { out = λ e h. s.out e; back = λ h. s.back (h refl) }
says_under false b A s = record { out = λ e h. absurd (false≢true h); back = λ h. refl }

says-within : (rs : List ℕ) (k : ℕ) (v : Locals) (n : ℕ) (q : Place) → Says (within_ok rs k v n q) (Within rs k v n q)
unfolding within_ok
says-within rs k v n place.Counter74 = says_yes
says-within rs k v n place.Search39 = says_yes
says-within rs k v n (place.Link a s) = says_yes
says-within rs k v n place.Word66 = says_yes
says-within rs k v n place.Grand66 = says_yes
says-within rs k v n place.Leaf164 = says_yes
says-within rs k v n place.Sibling182 = says_yes
says-within rs k v n place.CopyLeft = says_yes
says-within rs k v n place.CopyRight = says_yes
says-within rs k v n place.Word189 = says_yes
says-within rs k v n place.Leaf190 = says_yes
says-within rs k v n place.Frozen97 = says-between _ _ _
says-within rs k v n place.State98 = says-between _ _ _
says-within rs k v n place.Freeze103 = says_yes
says-within rs k v n (place.Help s b) = says_under (in_list s) _ _ (says-between _ _ _)
says-within rs k v n place.Counter130 = says_yes
says-within rs k v n place.Bump131 = says_yes
says-within rs k v n place.Word139 = says_yes
says-within rs k v n place.State140 = says_yes
says-within rs k v n place.Child141 = says_yes
says-within rs k v n place.Left144 = says_lt _ _

says_condition : (rs : List ℕ) (v : Locals) (n : ℕ) (c : Option Operation) → Says (condition_ok rs v n c) (ConditionSound rs v n c)
unfolding condition_ok
says_condition rs v n None = says_yes
says_condition rs v n (Some (Insert k q)) = says_and (says_itself _) (says-within rs _ v n q)
says_condition rs v n (Some (Delete k q)) = says_and (says_itself _) (says-within rs _ v n q)
says_condition rs v n (Some (Find k q)) = says_and (says_itself _) (says-within rs _ v n q)
says_condition rs v n (Some (Scan a b q)) = says_and (says_itself _) (says-within rs _ v n q)

pub says_worker : (s : World) (w : ℕ) → Says (worker_ok s w) (WorkerSound (totals_of s) s.records (pending_at s w) (worker_at s w))
unfolding worker_ok lists_ok
says_worker s w = says_as
    (says_more _ (says_more _ (says_le _ _) (says_more _ (says_le _ _) (says_more _ (says-every _ _ (λ i. (pending_at s w i).0 < (totals_of s).nodes) (λ i. says-used_node _ _)) says_none)))
    (says_more _ (says-hand _ _) (says_more _ (says_condition _ _ _ _) says_none)))
    (λ h. record { most_pending = h.0.0; most_found = h.0.1.0; pending_used = h.0.1.1.0; hand = h.1.0; place = h.1.1.0 })
    (λ r. ((r.most_pending, (r.most_found, (r.pending_used, tt))), (r.hand, (r.place, tt))))

-- ---- the whole

pub says-lent : (n m p : ℕ) (s : World) → Says (lent_ok n m p s) (HasRows node_width s.nodes n × HasRows record_width s.records m × (p * n ≤ length s.pending) × (p * n ≤ length s.found))
unfolding lent_ok HasRows
says-lent n m p s = says_as (says_more _ (says_le _ _) (says_more _ (says_le _ _) (says_more _ (says_le _ _) (says_more _ (says_le _ _) says_none))))
    (λ h. (h.0, h.1.0, h.1.1.0, h.1.1.1.0))
    (λ r. (r.0, (r.1, (r.2, (r.3, tt)))))

-- every record but the dummy
says_records : (s : Tables) → Says (every (s.totals.records - 1) (λ i. record_ok s (suc i))) ((n : ℕ) → 0 < n → n < s.totals.records → RecordSound s.totals s.nodes (filling_at s.records (record_no n)) (state_at s.records (record_no n)))
says_records s = says_as (says-every _ _ (λ i. RecordSound s.totals s.nodes (filling_at s.records (record_no (suc i))) (state_at s.records (record_no (suc i)))) (λ i. says_record s (suc i))) there (λ h k l. h (suc k) (omega arith) (omega arith))
  where
    there : ((k : ℕ) → k < s.totals.records - 1 → RecordSound s.totals s.nodes (filling_at s.records (record_no (suc k))) (state_at s.records (record_no (suc k)))) → (n : ℕ) → 0 < n → n < s.totals.records → RecordSound s.totals s.nodes (filling_at s.records (record_no n)) (state_at s.records (record_no n))
    there h zero z l = absurd (omega arith)
    there h (suc k) z l = h k (omega arith)

pub says-sound : (s : World) → Says (sound_of s) (Sound s)
unfolding sound_of
says-sound s = says_as
    (says_more _ (says_sizes _ _ _) (says_more _ (says-lent _ _ _ s) (says_more _ (says_used _) (says_more _ (says-root _) (says_more _ (says-dummy _)
    (says_more _ (says-every _ _ (λ n. NodeSound (totals_of s) n (fixed_at s.nodes (node n)) (child_at s.nodes (node n) true) (child_at s.nodes (node n) false) (update_at s.nodes (node n))) (λ n. says-node _ _ n))
    (says_more _ (says_records (tables_of s))
    (says_more _ (says-every _ _ (λ w. WorkerSound (totals_of s) s.records (pending_at s w) (worker_at s w)) (says_worker s)) says_none))))))))
    (λ h. record {
      sizes = h.0;
      pending_lent = h.1.0.2;
      found_lent = h.1.0.3;
      shared = record { node-rows = h.1.0.0; record_rows = h.1.0.1; used = h.1.1.0; root-row = h.1.1.1.0; dummy-row = h.1.1.1.1.0.0; dummy_state = h.1.1.1.1.0.1; nodes = h.1.1.1.1.1.0; records = h.1.1.1.1.1.1.0 };
      workers = h.1.1.1.1.1.1.1.0;
    })
    (λ r. (r.sizes, ((r.shared.node-rows, r.shared.record_rows, r.pending_lent, r.found_lent), (r.shared.used, (r.shared.root-row, ((r.shared.dummy-row, r.shared.dummy_state), (r.shared.nodes, (r.shared.records, (r.workers, tt)))))))))
