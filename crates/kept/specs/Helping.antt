-- HELP's turns are good decisions, wherever HELP returns to.
use Rattle.std.specs.Prelude.{ℕ, zero, suc, ◌+◌, ◌-◌, ◌≤◌, ◌<◌, ◌≡◌, ◌⊎◌, Bool, true, not, eqb, Option, None, Some}
use Rattle.std.proofs.Math.Path.{refl}
use Rattle.std.proofs.Common.{sym, ◌∙◌, subst, inl, inr, arith}
use Rattle.std.proofs.Math.Bool.{false}
use Rattle.std.proofs.lemmas.Bool.{false≢true}
use borrow.Author.Tests.{ltb-true}
use Rattle.laws.specs.Choice.{pick, fork}
use Rattle.laws.specs.Tests.{says_and, says_itself}
use Rattle.shapes.specs.declared.RecordNo.{RecordNo}
use Rattle.shapes.specs.declared.Locals.{Locals}
use Rattle.shapes.specs.declared.HelpStep.{HelpStep}
use Rattle.shapes.specs.declared.HelpStep.TheVariants.{Counter111, Abort112, Try113, State114, Freeze117, Frozen119, Child123, Commit124, State125, Abort126, State127}
use Rattle.shapes.specs.declared.HelpMove.{HelpMove}
use Rattle.shapes.specs.declared.HelpMove.TheVariants as help
use Rattle.shapes.specs.declared.Back.{Back}
use Rattle.shapes.specs.declared.Back.TheVariants.{Own, Again, Node}
use Rattle.shapes.specs.declared.Place.{Place}
use Rattle.shapes.specs.declared.Place.TheVariants as place
use Rattle.shapes.specs.declared.Effect.{Effect}
use Rattle.shapes.specs.declared.Effect.TheVariants as effect
use Rattle.shapes.specs.declared.Answer.TheVariants.{Yes}
use Rattle.tables.specs.Names.{node, dummy}
use Rattle.tables.specs.Nodes.{is_internal}
use Rattle.tables.specs.Records.{trying, committed, aborted, count_at, state_at, par_at, old_child_at, new_child_at, entry_at, helpable}
use Rattle.tables.specs.RecordWrites.{filling_at}
use Rattle.tables.specs.World.{Tables}
use Rattle.sound.specs.Homes.{in_list}
use Rattle.sound.specs.Meaning.{EntrySound, CountSound, RecordSound, HandSound, TablesSound}
use Rattle.sound.specs.Agree.{entry_of_lem, count_small}
use Rattle.steps.specs.Hand.{with_i}
use Rattle.steps.specs.Apply.{apply}
use Rattle.steps.specs.Help.{counter111, state_cas, state114, freeze_cas, frozen119, cas_child, state125, help_step, help_of, back_to, help_next}
use Rattle.kept.specs.Fits.{Fits}
use Rattle.kept.specs.Good.{Good, hand_i, hand_bare, good_does, good_goes, good_says, good_retries, good_pick}

-- ---- a record that may be helped

pub record Helped (s : Tables) (r : RecordNo) : Type 0 where
  pub other : 0 < r.0
  pub used : r.0 < s.totals.records
  pub filled : RecordSound s.totals s.nodes (filling_at s.records r) (state_at s.records r)
  pub two : 2 ≤ count_at s.records r
  pub internal : is_internal s.nodes (par_at s.records r) ≡ true

pub positive : (n : ℕ) → not (eqb n 0) ≡ true → 0 < n
positive zero e = absurd (false≢true e)
positive (suc n) e = omega arith

pub helped : (s : Tables) → TablesSound s → (r : RecordNo) → r.0 < s.totals.records → helpable s.records r ≡ true → Helped s r
unfolding helpable filling_at
helped s h r l e =
    let both = (says_and (says_itself _) (says_itself _)).out e in
    let z : 0 < r.0 = positive r.0 both.0 in
    let c : 0 < count_at s.records r = positive _ both.1 in
    let old = h.records r.0 z l in
    counted z old c old.count
  where
    counted : 0 < r.0 → RecordSound s.totals s.nodes (filling_at s.records r) (state_at s.records r) → 0 < count_at s.records r → CountSound s.nodes (filling_at s.records r) → Helped s r
    counted z old c (inl n) = let none : count_at s.records r ≡ 0 = n in absurd (omega arith)
    counted z old c (inr m) = record { other = z; used = l; filled = old; two = several m.0; internal = m.1 }
      where
        several : (count_at s.records r ≡ 2) ⊎ (count_at s.records r ≡ 4) → 2 ≤ count_at s.records r
        several (inl a) = omega arith
        several (inr a) = omega arith

-- nodes[i] and its old word are sound
pub entry-sound : (s : Tables) (r : RecordNo) → Helped s r → (i : ℕ) → 1 ≤ i → i ≤ count_at s.records r → EntrySound s.totals (entry_at s.records r i)
unfolding filling_at
entry-sound s r g zero a b = absurd (omega arith)
entry-sound s r g (suc i) a b =
    let most : count_at s.records r ≤ 4 = count_small s.nodes (filling_at s.records r) g.filled.count in
    subst (EntrySound s.totals) (sym (entry_of_lem s.records r i (omega arith))) (g.filled.entries i (omega arith))

-- ---- a move

-- what a move must be: its effect fits, and a place in the list lies within it
abbrev pub GoodMove : Tables → RecordNo → Option HelpMove → Type 0
GoodMove s r None = Unit {0}
GoodMove s r (Some (help.Goes e i b)) = Fits e s × ((apply e s).totals ≡ s.totals) × (in_list b ≡ true → (1 ≤ i) × (i ≤ count_at (apply e s).records r))
GoodMove s r (Some (help.Done done)) = Unit {0}

outside : (b : Bool) {A : Type 0} → b ≡ false → b ≡ true → A
outside b f t = let z : false ≡ true = sym f ∙ t in absurd (false≢true z)

module _ (s : Tables) (h : TablesSound s) (r : RecordNo) (g : Helped s r) where
  reads_good : (b : HelpStep) → in_list b ≡ false → GoodMove s r (Some (help.Goes effect.Nothing 0 b))
  unfolding apply
  reads_good b e = (tt, refl, outside (in_list b) e)

  inside_good : (i : ℕ) (b : HelpStep) → 1 ≤ i → i ≤ count_at s.records r → GoodMove s r (Some (help.Goes effect.Nothing i b))
  unfolding apply
  inside_good i b a c = (tt, refl, λ e. (a, c))

  state_good : (v : ℕ) (b : HelpStep) → v ≤ aborted → in_list b ≡ false → GoodMove s r (Some (help.Goes (effect.SetState r v) 0 b))
  unfolding apply
  state_good v b l e = ((g.other, g.used, l), refl, outside (in_list b) e)

  -- an effect or nothing, by a test
  cas_good : (t : Bool) (e : Effect) (i : ℕ) (b : HelpStep) → GoodMove s r (Some (help.Goes e i b)) → GoodMove s r (Some (help.Goes effect.Nothing i b)) → GoodMove s r (Some (help.Goes (pick t e effect.Nothing) i b))
  cas_good t e i b x y = fork (λ d. GoodMove s r (Some (help.Goes d i b))) t (λ _. x) (λ _. y)

  move_pick : (t : Bool) (x y : Option HelpMove) → (t ≡ true → GoodMove s r x) → (t ≡ false → GoodMove s r y) → GoodMove s r (pick t x y)
  move_pick t x y p q = fork (GoodMove s r) t p q

  pub step_good : (i : ℕ) (b : HelpStep) → (in_list b ≡ true → (1 ≤ i) × (i ≤ count_at s.records r)) → GoodMove s r (help_step s r i b)
  unfolding help_step counter111 state_cas state114 freeze_cas frozen119 cas_child state125 in_list apply par_at old_child_at new_child_at filling_at
  step_good i Counter111 w = move_pick _ _ _ (λ e. reads_good Try113 refl) (λ e. reads_good Abort112 refl)
  step_good i Abort112 w = cas_good _ _ 0 State114 (state_good aborted State114 (omega arith) refl) (reads_good State114 refl)
  step_good i Try113 w = cas_good _ _ 0 State114 (state_good trying State114 (omega arith) refl) (reads_good State114 refl)
  step_good i State114 w = move_pick _ _ _ (λ e. inside_good 2 Freeze117 (omega arith) g.two) (λ e. reads_good State125 refl)
  step_good i Freeze117 w =
      let at = w refl in
      let e = entry-sound s r g i at.0 at.1 in
      cas_good _ _ i Frozen119 ((e.node, record { type = e.mark; info = g.used }), refl, λ _. at) (inside_good i Frozen119 at.0 at.1)
  step_good i Frozen119 w =
      let at = w refl in
      move_pick _ _ _
      (λ e. move_pick _ _ _ (λ l. inside_good (i + 1) Freeze117 (omega arith) (let m : i < count_at s.records r = ltb-true _ _ l in omega arith)) (λ l. reads_good Child123 refl))
      (λ e. reads_good State125 refl)
  step_good i Child123 w = cas_good _ _ 0 Commit124 ((record { used = g.filled.par; internal = g.internal }, g.filled.new), refl, outside false refl) (reads_good Commit124 refl)
  step_good i Commit124 w = state_good committed State127 (omega arith) refl
  step_good i State125 w = move_pick _ _ _ (λ e. reads_good Abort126 refl) (λ e. reads_good State127 refl)
  step_good i Abort126 w = state_good aborted State127 (omega arith) refl
  step_good i State127 w = tt

pub help_good : (s : Tables) → TablesSound s → (r : RecordNo) → r.0 < s.totals.records → (i : ℕ) (b : HelpStep) → (in_list b ≡ true → (1 ≤ i) × (i ≤ count_at s.records r)) → GoodMove s r (help_of s r i b)
unfolding help_of
help_good s h r l i b w = fork (GoodMove s r) (helpable s.records r) (λ e. step_good s h r (helped s h r l e) i b w) (λ e. tt)

-- ---- back from HELP

-- where HELP may return to, an operation has the places that follow
abbrev pub Returns : (Place → Bool) → Back → Type 0
Returns home Own = home place.Counter74 ≡ true
Returns home Again = home place.Counter74 ≡ true
Returns home Node = home place.Child141 ≡ true

module _ (s : Tables) (h : TablesSound s) (home : Place → Bool) (k n f : ℕ) where
  back_good : (b : Back) (v : Locals) (done : Bool) → HandSound s.totals v → Returns home b → Good s home k n f (back_to b v done)
  unfolding back_to
  back_good Own v done hand e = good_pick s h home k n f done _ _ (λ _. good_says s h home k n f Yes) (λ _. good_retries s h home k n f e)
  back_good Again v done hand e = good_retries s h home k n f e
  back_good Node v done hand e = good_goes s h home k n f _ place.Child141 (hand_bare s h v.seq v.p dummy hand.seq hand.p (omega (arith, h.used.least_records))) (e, tt)

  pub next_good : (b : Back) (v : Locals) (m : Option HelpMove) → HandSound s.totals v → ((c : HelpStep) → home (place.Help c b) ≡ true) → Returns home b → GoodMove s v.info m → Good s home k n f (help_next b v m)
  unfolding help_next
  next_good b v None hand at ret g = tt
  next_good b v (Some (help.Goes e i c)) hand at ret g = good_does s h home k n f e (with_i v i) (place.Help c b) g.0 (rw g.1 (hand_i hand i)) (at c, g.2)
  next_good b v (Some (help.Done done)) hand at ret g = back_good b v done hand ret
