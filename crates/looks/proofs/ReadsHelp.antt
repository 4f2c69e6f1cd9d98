-- A turn of HELP or of a scan decides by the one word that it looks at.
use Rattle.std.specs.Prelude.{ℕ, ◌≤◌, ◌≡◌, Bool, ltb}
use Rattle.std.proofs.Math.Path.{refl, subst}
use Rattle.std.proofs.Common.{ap, ◌∙◌}
use Rattle.std.proofs.Math.Bool.{true, false}
use Rattle.laws.specs.Choice.{pick_true, pick_false}
use Rattle.shapes.specs.declared.NodeNo.{NodeNo}
use Rattle.shapes.specs.declared.RecordNo.{RecordNo}
use Rattle.shapes.specs.declared.Key.{Key}
use Rattle.shapes.specs.declared.Locals.{Locals}
use Rattle.shapes.specs.declared.HelpStep.{HelpStep}
use Rattle.shapes.specs.declared.HelpStep.TheVariants.{Counter111, Abort112, Try113, State114, Freeze117, Frozen119, Child123, Commit124, State125, Abort126, State127}
use Rattle.shapes.specs.declared.Back.{Back}
use Rattle.shapes.specs.declared.PendingChange.{PendingChange}
use Rattle.tables.specs.Nodes.{key_at}
use Rattle.tables.specs.Records.{par_at, new_child_at, entry_at}
use Rattle.tables.specs.World.{Tables}
use Rattle.sound.specs.Homes.{in_list}
use Rattle.steps.specs.Help.{counter111, state_cas, state114, freeze_cas, frozen119, cas_child, state125, help_step, help_of, help_next}
use Rattle.steps.specs.Scan.{Lists, Range, bump131, word139, state140, within, comes_to, reads, child141, left144}
use Rattle.kept.specs.Touched.{counter, child, word, state}
use Rattle.looks.specs.Looked.{help_looks, scans_left}
use Rattle.looks.specs.Alike.{Alike}
use Rattle.looks.specs.Common.{SameAt, same_pick, same_counter, same_child, same_word, same_state, same_internal, same_rank, same_key, with-node, with_child, same_count, same_par, same_old, same_new, same_seq, same_entry, same_helpable}

module _ (s t : Tables) (a : Alike s t) where
  -- ---- HELP

  same_step : (r : RecordNo) (i : ℕ) (b : HelpStep) → (in_list b ≡ true → (1 ≤ i) × (i ≤ 4)) → SameAt s t (help_looks s r i b) → help_step t r i b ≡ help_step s r i b
  unfolding help_step help_looks counter111 state_cas state114 freeze_cas frozen119 cas_child state125 in_list
  same_step r i Counter111 l e = rw (same_counter s t e, same_seq s t a r)
  same_step r i Abort112 l e = rw (same_state s t r e)
  same_step r i Try113 l e = rw (same_state s t r e)
  same_step r i State114 l e = rw (same_state s t r e)
  same_step r i Freeze117 l e = rw (same_entry s t a r i (l refl).0 (l refl).1, same_word s t (entry_at s.records r i).node e)
  same_step r i Frozen119 l e = rw (same_entry s t a r i (l refl).0 (l refl).1, same_word s t (entry_at s.records r i).node e, same_count s t a r)
  same_step r i Child123 l e =
      let par = par_at s.records r in
      let new = new_child_at s.records r in
      rw (same_par s t a r, same_old s t a r, same_new s t a r, same_key s t a par, same_key s t a new, same_child s t par (ltb (key_at s.nodes new) (key_at s.nodes par)) e)
  same_step r i Commit124 l e = refl
  same_step r i State125 l e = rw (same_state s t r e)
  same_step r i Abort126 l e = refl
  same_step r i State127 l e = rw (same_state s t r e)

  pub help_one : (v : Locals) (b : HelpStep) (c : Back) → (in_list b ≡ true → (1 ≤ v.i) × (v.i ≤ 4)) → SameAt s t (help_looks s v.info v.i b) → help_next c v (help_of t v.info v.i b) ≡ help_next c v (help_of s v.info v.i b)
  unfolding help_of
  help_one v b c l e = rw (same_helpable s t a v.info, same_step v.info v.i b l e)

  -- ---- scans

  pub bump_one : (v : Locals) → SameAt s t counter → bump131 t.totals v ≡ bump131 s.totals v
  unfolding bump131
  bump_one v e = rw (same_counter s t e)

  pub word139-one : (v : Locals) → SameAt s t (word v.p) → word139 t.nodes v ≡ word139 s.nodes v
  unfolding word139
  word139-one v e = with-node s t a v.p _ _ (rw (same_word s t v.p e))

  pub state140-one : (v : Locals) → SameAt s t (state v.info) → state140 t.records v ≡ state140 s.records v
  unfolding state140
  state140-one v e = rw (same_state s t v.info e)

  same_within : (g : Range) (c : NodeNo) → within t.nodes g c ≡ within s.nodes g c
  unfolding within
  same_within g c = rw (same_key s t a c)

  same_comes : (g : Range) (keys : ℕ) (change : PendingChange) (n : ℕ) (c : NodeNo) → comes_to t.totals t.nodes g keys change n c ≡ comes_to s.totals s.nodes g keys change n c
  unfolding comes_to
  same_comes g keys change n c = rw (same_internal s t a c, same_within g c, a.n, same_rank s t a c)

  same_reads : (g : Range) (keys : ℕ) (change : PendingChange) (n : ℕ) (x : NodeNo) (left : Bool) → SameAt s t (child x left) → reads t.totals t.nodes g keys change n x left ≡ reads s.totals s.nodes g keys change n x left
  unfolding reads
  same_reads g keys change n x left e = with_child s t a x left g.seq _ _ e (same_comes g keys change n)

  pub child141-one : (low high : Key) (ls : Lists) (v : Locals) → SameAt s t (child v.p (scans_left s.nodes low high v.p)) → child141 t.totals t.nodes (record { low = low; high = high; seq = v.seq }) ls v ≡ child141 s.totals s.nodes (record { low = low; high = high; seq = v.seq }) ls v
  unfolding child141 scans_left
  child141-one low high ls v e = with-node s t a v.p _ _ (rw (same_key s t a v.p)
      (same_pick _ _ _ _ _ _ refl (λ below. same_reads _ _ _ _ v.p false (on false (pick_true _ _ _ below)))
      (λ up. same_pick _ _ _ _ _ _ refl (λ above. same_reads _ _ _ _ v.p true (on true (pick_false _ _ _ up ∙ above)))
      (λ in_range. same_pick _ _ _ _ _ _ (ap (ltb ls.pending) a.n) (λ _. same_reads _ _ _ _ v.p false (on false (pick_false _ _ _ up ∙ in_range))) (λ _. refl)))))
    where
      on : (left : Bool) → scans_left s.nodes low high v.p ≡ left → SameAt s t (child v.p left)
      on left is = subst (λ l. SameAt s t (child v.p l)) is e

  pub left144-one : (g : Range) (ls : Lists) → SameAt s t (child ls.top true) → left144 t.totals t.nodes g ls ≡ left144 s.totals s.nodes g ls
  unfolding left144
  left144-one g ls e = with-node s t a ls.top _ _ (same_reads g _ _ _ ls.top true e)
