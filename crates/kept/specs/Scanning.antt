-- Every turn of a scan is a good decision.
use Prim.Native.Nat.{ℕ, zero, suc, ◌+◌, ◌-◌, ◌<◌}
use Rattle.std.specs.Prelude.{◌≡◌, Bool, Option, None, Some}
use Rattle.std.proofs.Math.Path.{refl}
use Rattle.std.proofs.Math.Bool.{true, false}
use Rattle.std.proofs.lemmas.Bool.{false≢true, eqb-false}
use native.Mathlib.Omega.{arith}
use Rattle.std.proofs.Common.{ltb-true}
use Rattle.laws.specs.Choice.{pick}
use Rattle.shapes.specs.declared.NodeNo.{NodeNo}
use Rattle.shapes.specs.declared.Key.{Key}
use Rattle.shapes.specs.declared.Locals.{Locals}
use Rattle.shapes.specs.declared.HelpStep.TheVariants.{Counter111}
use Rattle.shapes.specs.declared.Back.{Back}
use Rattle.shapes.specs.declared.Back.TheVariants.{Own, Again, Node}
use Rattle.shapes.specs.declared.Place.{Place}
use Rattle.shapes.specs.declared.Place.TheVariants as place
use Rattle.shapes.specs.declared.Effect.TheVariants as effect
use Rattle.shapes.specs.declared.PendingChange.{PendingChange}
use Rattle.shapes.specs.declared.PendingChange.TheVariants as pending
use Rattle.shapes.specs.declared.Answer.TheVariants.{NoPhase}
use Rattle.shapes.specs.Outcomes.{Decision}
use Rattle.tables.specs.Names.{root, dummy}
use Rattle.tables.specs.World.{Tables}
use Rattle.sound.specs.Homes.{is_node, scan_home, in_list}
use Rattle.sound.specs.Meaning.{HandSound, TablesSound}
use Rattle.steps.specs.Hand.{at_root, through}
use Rattle.steps.specs.Apply.{apply}
use Rattle.steps.specs.Scan.{Lists, Range, bump131, word139, state140, leaves, comes_to, reads, child141, left144}
use Rattle.steps.specs.Turn.{pending_left}
use Rattle.steps.specs.Decide.{scan}
use Rattle.steps.specs.Ways.{scan-places}
use Rattle.kept.specs.Later.{hand-later}
use Rattle.kept.specs.Fits.{Parent}
use Rattle.kept.specs.Takings.{grows_bump}
use Rattle.kept.specs.Good.{Allowed, PendingFits, FoundFits, Good, hand_bare, hand-blank, good_does, good_goes, good_says, good_pick, good_through, parent_at, read_used}
use Rattle.kept.specs.Helping.{help_good, Returns, next_good}

module _ (s : Tables) (h : TablesSound s) (v : Locals) (hand : HandSound s.totals v) (ls : Lists) (top : 0 < ls.pending → ls.top.0 < s.totals.nodes) where
  abbrev G : Decision → Type 0
  G = Good s scan_home 0 ls.pending ls.found

  if : (b : Bool) (x y : Decision) → (b ≡ true → G x) → (b ≡ false → G y) → G (pick b x y)
  if = good_pick s h scan_home 0 ls.pending ls.found

  with-node : (m : Option NodeNo) (g : NodeNo → Decision) → ((x : NodeNo) → m ≡ Some x → G (g x)) → G (through m g)
  with-node = good_through s h scan_home 0 ls.pending ls.found

  no_record : dummy.0 < s.totals.records
  no_record = omega (arith, h.used.least_records)

  at-root : HandSound s.totals (at_root v.seq)
  at-root = hand_bare s h v.seq root dummy hand.seq (omega (arith, h.used.least_nodes)) no_record

  -- ---- lines 130, 131, 139 and 140

  bump_good : G (bump131 s.totals v)
  unfolding bump131 scan_home apply
  bump_good = if _ _ _
      (λ l. good_does s h scan_home 0 ls.pending ls.found effect.Bump (at_root v.seq) place.Word139 (ltb-true _ _ l) (hand-later (grows_bump s) at-root) (refl, tt))
      (λ l. good_says s h scan_home 0 ls.pending ls.found NoPhase)

  word_good : G (word139 s.nodes v)
  unfolding word139 scan_home
  word_good = with-node _ _ (λ x e.
      let p = (parent_at s h (Some v.p) x e hand.p).1 in
      good_goes s h scan_home 0 ls.pending ls.found _ place.State140 (hand_bare s h v.seq x _ hand.seq p.used (h.nodes x.0 p.used).update.info) (refl, tt))

  state_good : G (state140 s.records v)
  unfolding state140 scan_home is_node in_list
  state_good = if _ _ _
      (λ _. good_goes s h scan_home 0 ls.pending ls.found _ (place.Help Counter111 Node) (hand_bare s h v.seq v.p v.info hand.seq hand.p hand.info) (refl, λ e. absurd (false≢true e)))
      (λ _. good_goes s h scan_home 0 ls.pending ls.found _ place.Child141 (hand_bare s h v.seq v.p dummy hand.seq hand.p no_record) (refl, tt))

  -- ---- the children

  module _ (g : Range) (same : g.seq ≡ v.seq) (change : PendingChange) (fits : PendingFits s.totals ls.pending change) (n : ℕ) (left : n ≡ pending_left ls.pending change) where
    leaves_good : (add : Option Key) (keys : ℕ) → FoundFits s.totals ls.found add → G (leaves g change add n keys)
    unfolding leaves scan_home apply
    leaves_good add keys ok = if _ _ _
        (λ _. record { fits = tt; hand = hand-blank s h; pending = fits; found = ok; next = tt })
        (λ e. record { fits = tt; hand = rw same at-root; pending = fits; found = ok; next = (refl, rw (← left) (some n (eqb-false _ _ e))) })
      where
        some : (m : ℕ) → (m ≡ 0 → ⊥) → 0 < m
        some zero ne = absurd (ne refl)
        some (suc m) ne = omega arith

    comes_good : (c : NodeNo) → c.0 < s.totals.nodes → G (comes_to s.totals s.nodes g ls.found change n c)
    unfolding comes_to scan_home apply
    comes_good c l = if _ _ _
        (λ _. record { fits = tt; hand = rw same (hand_bare s h v.seq c dummy hand.seq l no_record); pending = fits; found = tt; next = (refl, tt) })
        (λ _. if _ _ _ (λ _. if _ _ _ (λ e. leaves_good _ _ (ltb-true _ _ e)) (λ _. tt)) (λ _. leaves_good None _ tt))

    reads_good : (x : NodeNo) (side : Bool) → Parent s x → G (reads s.totals s.nodes g ls.found change n x side)
    unfolding reads
    reads_good x side p = with-node _ _ (λ c e. comes_good c (read_used s h _ x side _ c p e))

  child_good : (g : Range) → g.seq ≡ v.seq → G (child141 s.totals s.nodes g ls v)
  unfolding child141 pending_left
  child_good g same = with-node _ _ (λ x e.
      let p = (parent_at s h (Some v.p) x e hand.p).1 in
      if _ _ _ (λ _. reads_good g same pending.Keep tt ls.pending refl x false p)
      (λ _. if _ _ _ (λ _. reads_good g same pending.Keep tt ls.pending refl x true p)
      (λ _. if _ _ _ (λ l. reads_good g same (pending.Push x) (ltb-true _ _ l, p.used) (ls.pending + 1) refl x false p) (λ _. tt))))

  left_good : (g : Range) → g.seq ≡ v.seq → 0 < ls.pending → G (left144 s.totals s.nodes g ls)
  unfolding left144 pending_left
  left_good g same l = with-node _ _ (λ x e. reads_good g same pending.Pop tt (ls.pending - 1) refl x true (parent_at s h (Some ls.top) x e (top l)).1)

  -- ---- HELP

  node_returns : (b : Back) → is_node b ≡ true → Returns scan_home b
  unfolding is_node scan_home
  node_returns Own t = absurd (false≢true t)
  node_returns Again t = absurd (false≢true t)
  node_returns Node t = refl

  -- ---- every place

  pub scan_good : (a b : Key) (q : Place) → Allowed scan_home 0 s.records v ls.pending q → G (scan s ls a b v q)
  unfolding scan scan_home
  scan_good a b =
      scan-places s s ls a b v (λ q d _. Allowed scan_home 0 s.records v ls.pending q → G d)
      (λ q i. tt)
      (λ c d i. next_good s h scan_home 0 ls.pending ls.found d v _ hand (λ _. i.0) (node_returns d i.0) (help_good s h v.info hand.info v.i c i.1))
      (λ i. good_goes s h scan_home 0 ls.pending ls.found _ place.Bump131 (hand_bare s h _ root dummy (omega arith) (omega (arith, h.used.least_nodes)) no_record) (refl, tt))
      (λ i. bump_good)
      (λ i. word_good)
      (λ i. state_good)
      (λ i. child_good _ refl)
      (λ i. left_good _ refl i.1)
