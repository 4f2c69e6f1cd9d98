-- 01, 'Errors that look right' and 'How tight the contracts are': evenings on which each wrong machine would say something else.
use Rattle.std.specs.Prelude.{ℕ, zero, suc, ◌≡◌, refl, Bool, true, false, List, [], ◌∷◌, pos, eqb, None, Some, Ok, Err}
use Rattle.std.proofs.Common.{ap, sym, ◌∙◌, true≢false}
use Rattle.std.proofs.lemmas.Bool.{false≢true}
use Rattle.shapes.specs.declared.Key.{Key}
use Rattle.shapes.specs.declared.Place.TheVariants as place
use Rattle.shapes.specs.declared.Operation.TheVariants.{Insert}
use Rattle.shapes.specs.declared.Refusal.{Refusal}
use Rattle.shapes.specs.declared.Answer.TheVariants.{Yes, No, Keys, NoRoom, NoPhase}
use Rattle.shapes.specs.Outcomes.{Outcome}
use Rattle.tables.specs.Names.{node, record_no, phase, root, mark, key_of}
use Rattle.tables.specs.World.{World, Tables, totals_of, tables_of}
use Rattle.tables.specs.Fresh.{Left, refused}
use Rattle.tables.specs.Nodes.{child_at, update_at}
use Rattle.tables.specs.Records.{count_at, state_at}
use Rattle.steps.specs.Hand.{at_root}
use Rattle.steps.specs.Turn.{Ran, turn_of, find_of, run_of, run_from}
use Rattle.steps.specs.Opened.{steps_opened}
use Rattle.steps.specs.Play.{fresh, insert, delete, find, scans, answer, to_the_end, shown, show, took, done}
use Rattle.steps.specs.Kept.{is_refused}
use Rattle.steps.specs.Deletes.{two, three}
use Rattle.steps.specs.Hands.{with_node, with_worker, busy, mark_word}

-- a scan of phase 0 has taken two turns; insert 5 passes whole, in phase 1; the scan goes on
unfoldable pub old_scan : Ran
old_scan =
    let a = took 2 1 (scans 1 (pos 0) (pos 9) (fresh 16 4)) in
    let b = done 0 (insert 0 (pos 5) a) in
    run_from to_the_end 2 1 b

-- insert 5 stands before the CAS of line 103; by hand, the Root's word becomes (MARK, dummy)
unfoldable pub marked_root : Ran
marked_root = run_from to_the_end 9 0 (with_node 0 mark_word mark (took 9 0 (insert 0 (pos 5) (fresh 16 4))))

-- insert 5 stands before the CAS of line 117; by hand, the leaf's word becomes (MARK, dummy)
unfoldable pub marked_leaf : Ran
marked_leaf = run_from to_the_end 13 0 (with_node 1 mark_word mark (took 13 0 (insert 0 (pos 5) (fresh 16 4))))

-- after 5, 3 and 7 find 7 comes down to its leaf; delete 3 marks that leaf's parent and commits; 7 is deleted; the find goes on
unfoldable pub stale_find : Ran
stale_find =
    let a = took 5 1 (find 1 (pos 7) three) in
    let b = done 0 (delete 0 (pos 3) a) in
    let c = done 0 (delete 0 (pos 7) b) in
    run_from to_the_end 5 1 c

-- P8 is the first of 01's errors: a record tried without comparing Counter
pub record Errors : Type 0 where
  -- 'a scan that follows the newest child and ignores phases' would find 5, in 8 turns
  pub newest_child : show old_scan ≡ shown (Ok (Some (Keys 0))) 5 6 2 1
  -- 'comparing only the record of an update word in a CAS' would go on, to 18 turns: the tenth fails, then a whole attempt
  pub only_the_record103 : show marked_root ≡ shown (Ok (Some Yes)) 28 9 3 0
  -- and here: turns 14 to 18 fail, see that, abort and say so; then a whole attempt
  pub only_the_record117 : show marked_leaf ≡ shown (Ok (Some Yes)) 36 9 3 0
  -- 'treating MARK with COMMIT as unfrozen' would say yes, in 13 turns; after the first 5, two come to line 53, five are HELP's, and a new attempt takes 11
  pub mark_with_commit : show stale_find ≡ shown (Ok (Some No)) 23 14 6 0

pub errors : Errors
unfolding steps_opened fresh insert delete find scans answer show took done two three old_scan marked_root marked_leaf stale_find
errors = record { newest_child = refl; only_the_record103 = refl; only_the_record117 = refl; mark_with_commit = refl }

-- ---- the five programs that must be rejected

-- insert 5 is started on fresh tables
unfoldable pub starts5 : World
starts5 = insert 0 (pos 5) (fresh 16 4)

-- what others can see of insert 5: nodes used; the Root's left child and update word; the leaf's update word; the nodes that record 1 lists, and its state
unfoldable pub seen : World → List ℕ
seen s =
    let ns = s.nodes in
    let r = record_no 1 in
    (totals_of s).nodes ∷ (child_at ns root true).0 ∷ (update_at ns root).mark ∷ (update_at ns root).info.0 ∷ (update_at ns (node 1)).mark ∷ (update_at ns (node 1)).info.0 ∷ count_at s.records r ∷ state_at s.records r ∷ []

-- the same after each of worker 0's next k turns
unfoldable pub diary : ℕ → World → List (List ℕ)
diary zero s = []
diary (suc k) s =
    let t = (turn_of s 0).world in
    seen t ∷ diary k t

unfoldable pub is_yes : Outcome → Bool
is_yes (Ok None) = false
is_yes (Ok (Some Yes)) = true
is_yes (Ok (Some No)) = false
is_yes (Ok (Some (Keys k))) = false
is_yes (Ok (Some NoRoom)) = false
is_yes (Ok (Some NoPhase)) = false
is_yes (Err r) = false

pub record Rejected : Type 0 where
  -- a turn that refuses always, with whatever refusal
  pub refuses_always : (r : World → ℕ → Refusal) → ((s : World) (w : ℕ) → refused s (r s w) ≡ turn_of s w) → ⊥
  -- a find that says no always, or anything but yes: P3
  pub never_yes : ((n w : ℕ) (s : World) (k : Key) → false ≡ is_yes (run_of n (find_of s w k).world w).outcome) → ⊥
  -- a turn that alters nothing
  pub alters_nothing : ((s : World) (w : ℕ) → s ≡ (turn_of s w).world) → ⊥
  -- a worker that finishes the whole operation in its first turn, whatever it does with the rest
  pub finishes_at_once : ((s : World) (w : ℕ) → tables_of (done w s) ≡ tables_of (turn_of s w).world) → ⊥
  -- a made-up turn count, whatever it is made of besides the tables: P1 and P2
  pub made_up_count : (count : ℕ → ℕ → ℕ) → ((n w : ℕ) (s : World) → count n w ≡ (run_of n s w).turns) → ⊥
  -- the first turn of insert 5, line 74, exactly: the worker has its phase and goes on to line 39; nothing else moves
  pub first_turn : turn_of starts5 0 ≡ record { world = with_worker 0 (busy (Insert (key_of (pos 5)) place.Search39) (at_root (phase 0)) 0 0) starts5; outcome = Ok None }
  -- the tables after each of its 18 turns
  pub turn_by_turn : diary 18 starts5 ≡
      -- 74, 39, 52, 53, 57
      (3 ∷ 1 ∷ 0 ∷ 0 ∷ 0 ∷ 0 ∷ 0 ∷ 0 ∷ []) ∷ (3 ∷ 1 ∷ 0 ∷ 0 ∷ 0 ∷ 0 ∷ 0 ∷ 0 ∷ []) ∷ (3 ∷ 1 ∷ 0 ∷ 0 ∷ 0 ∷ 0 ∷ 0 ∷ 0 ∷ []) ∷ (3 ∷ 1 ∷ 0 ∷ 0 ∷ 0 ∷ 0 ∷ 0 ∷ 0 ∷ []) ∷ (3 ∷ 1 ∷ 0 ∷ 0 ∷ 0 ∷ 0 ∷ 0 ∷ 0 ∷ []) ∷
      -- 66: three nodes and a record are taken; the record has the dummy's state
      (6 ∷ 1 ∷ 0 ∷ 0 ∷ 0 ∷ 0 ∷ 0 ∷ 3 ∷ []) ∷
      -- 164, 97
      (6 ∷ 1 ∷ 0 ∷ 0 ∷ 0 ∷ 0 ∷ 0 ∷ 3 ∷ []) ∷ (6 ∷ 1 ∷ 0 ∷ 0 ∷ 0 ∷ 0 ∷ 0 ∷ 3 ∷ []) ∷
      -- 97 again, and 102: the record is filled
      (6 ∷ 1 ∷ 0 ∷ 0 ∷ 0 ∷ 0 ∷ 2 ∷ 0 ∷ []) ∷
      -- 103: the Root's word is (FLAG, 1)
      (6 ∷ 1 ∷ 0 ∷ 1 ∷ 0 ∷ 0 ∷ 2 ∷ 0 ∷ []) ∷
      -- 111
      (6 ∷ 1 ∷ 0 ∷ 1 ∷ 0 ∷ 0 ∷ 2 ∷ 0 ∷ []) ∷
      -- 113: TRY
      (6 ∷ 1 ∷ 0 ∷ 1 ∷ 0 ∷ 0 ∷ 2 ∷ 1 ∷ []) ∷
      -- 114
      (6 ∷ 1 ∷ 0 ∷ 1 ∷ 0 ∷ 0 ∷ 2 ∷ 1 ∷ []) ∷
      -- 117: the leaf's word is (MARK, 1)
      (6 ∷ 1 ∷ 0 ∷ 1 ∷ 1 ∷ 1 ∷ 2 ∷ 1 ∷ []) ∷
      -- 119
      (6 ∷ 1 ∷ 0 ∷ 1 ∷ 1 ∷ 1 ∷ 2 ∷ 1 ∷ []) ∷
      -- 85: the Root's left child is the new internal node
      (6 ∷ 5 ∷ 0 ∷ 1 ∷ 1 ∷ 1 ∷ 2 ∷ 1 ∷ []) ∷
      -- 124: COMMIT
      (6 ∷ 5 ∷ 0 ∷ 1 ∷ 1 ∷ 1 ∷ 2 ∷ 2 ∷ []) ∷
      -- 127
      (6 ∷ 5 ∷ 0 ∷ 1 ∷ 1 ∷ 1 ∷ 2 ∷ 2 ∷ []) ∷ []

pub rejected : Rejected
unfolding steps_opened fresh insert find answer took done starts5 seen diary is_refused is_yes
rejected = record {
  refuses_always = λ r same. true≢false (ap (λ (d : Left). is_refused d.outcome) (same starts5 0));
  never_yes = λ never. false≢true (never to_the_end 0 (done 0 starts5) (key_of (pos 5)));
  alters_nothing = λ same. false≢true (ap (λ (s : World). eqb (totals_of s).nodes 6) (same (took 5 0 starts5) 0));
  finishes_at_once = λ same. true≢false (ap (λ (t : Tables). eqb t.totals.nodes 6) (same starts5 0));
  made_up_count = λ count same. false≢true (ap (eqb 18) (sym (same to_the_end 0 (find 0 (pos 5) (fresh 16 4))) ∙ same to_the_end 0 starts5));
  first_turn = refl;
  turn_by_turn = refl;
}
