-- What a decision must be so that the worker that takes it stays sound, and how such decisions are put together.
use Prim.Native.Nat.{ℕ, zero, suc, ◌≤◌, ◌<◌}
use Rattle.std.proofs.Math.Path.{◌≡◌, refl}
use Rattle.std.proofs.Common.{ap, arith}
use Rattle.std.specs.Prelude.{List, Bool, leb, Option, None, Some}
use Rattle.std.proofs.Math.Bool.{true, false}
use Rattle.laws.specs.Choice.{pick, fork}
use Rattle.shapes.specs.declared.NodeNo.{NodeNo}
use Rattle.shapes.specs.declared.RecordNo.{RecordNo}
use Rattle.shapes.specs.declared.Phase.{Phase}
use Rattle.shapes.specs.declared.Update.{Update}
use Rattle.shapes.specs.declared.Totals.{Totals}
use Rattle.shapes.specs.declared.Locals.{Locals}
use Rattle.shapes.specs.declared.Place.{Place}
use Rattle.shapes.specs.declared.Place.TheVariants as place
use Rattle.shapes.specs.declared.HelpStep.TheVariants.{Counter111}
use Rattle.shapes.specs.declared.Back.TheVariants.{Again}
use Rattle.shapes.specs.declared.Effect.{Effect}
use Rattle.shapes.specs.declared.PendingChange.{PendingChange}
use Rattle.shapes.specs.declared.PendingChange.TheVariants as pending
use Rattle.shapes.specs.declared.Answer.{Answer}
use Rattle.shapes.specs.declared.Next.{Next}
use Rattle.shapes.specs.declared.Next.TheVariants as next
use Rattle.shapes.specs.declared.Step.{Step}
use Rattle.shapes.specs.Outcomes.{Decision}
use Rattle.shapes.specs.declared.Key.{Key}
use Rattle.tables.specs.Names.{phase, root, dummy, fresh_word}
use Rattle.tables.specs.Nodes.{is_internal, phase_at, prev_at, child_at}
use Rattle.tables.specs.NodeWrites.{fixed_at}
use Rattle.tables.specs.Versions.{walk_back, read_child, as_parent}
use Rattle.tables.specs.World.{Tables, blank}
use Rattle.sound.specs.Homes.{in_list}
use Rattle.sound.specs.Meaning.{WordSound, MaybeSound, PrevSound, HandSound, Within, TablesSound}
use Rattle.steps.specs.Hand.{at_word, holding, down_to, with_leaf, with_up, with_pup, with_gpup, with_sup, with_lup, with_sibling, with_taken, with_i, does, goes, says, retries, helps, through}
use Rattle.steps.specs.Apply.{apply}
use Rattle.steps.specs.Turn.{pending_left}
use Rattle.kept.specs.Fits.{Parent, Fits}
use Rattle.kept.specs.Writes.{kind_one}

-- ---- good decisions

-- the places of an operation, with so many nodes in its record
abbrev pub Allowed : (Place → Bool) → ℕ → List ℕ → Locals → ℕ → Place → Type 0
Allowed home k rs v n q = (home q ≡ true) × Within rs k v n q

abbrev pub PendingFits : Totals → ℕ → PendingChange → Type 0
PendingFits t n pending.Keep = Unit {0}
PendingFits t n (pending.Push x) = (n < t.n) × (x.0 < t.nodes)
PendingFits t n pending.Pop = Unit {0}

abbrev pub FoundFits : Totals → ℕ → Option Key → Type 0
FoundFits t n None = Unit {0}
FoundFits t n (Some k) = n < t.n

abbrev pub NextFits : (Place → Bool) → ℕ → List ℕ → Locals → ℕ → Next → Type 0
NextFits home k rs v n (next.At q) = Allowed home k rs v n q
NextFits home k rs v n (next.Answers a) = Unit {0}

-- n nodes are pending and f keys found before the turn
pub record GoodStep (s : Tables) (home : Place → Bool) (k n f : ℕ) (d : Step) : Type 0 where
  pub fits : Fits d.effect s
  pub hand : HandSound (apply d.effect s).totals d.hand
  pub pending : PendingFits s.totals n d.pending
  pub found : FoundFits s.totals f d.found
  pub next : NextFits home k (apply d.effect s).records d.hand (pending_left n d.pending) d.next

abbrev pub Good : Tables → (Place → Bool) → ℕ → ℕ → ℕ → Decision → Type 0
Good s home k n f None = Unit {0}
Good s home k n f (Some d) = GoodStep s home k n f d

-- ---- what may stand in the hand

module _ {t : Totals} {v : Locals} (h : HandSound t v) where
  pub hand-down_to : (c : NodeNo) → c.0 < t.nodes → HandSound t (down_to v c)
  hand-down_to c l = record { seq = h.seq; gp = h.p; p = l; l = h.l; gpup = h.gpup; pup = h.pup; lup = h.lup; sup = h.sup; up = h.up; sibling = h.sibling; made = h.made; info = h.info }

  pub hand_leaf : (c : NodeNo) → c.0 < t.nodes → HandSound t (with_leaf v c)
  hand_leaf c l = record { seq = h.seq; gp = h.gp; p = h.p; l = l; gpup = h.gpup; pup = h.pup; lup = h.lup; sup = h.sup; up = h.up; sibling = h.sibling; made = h.made; info = h.info }

  pub hand_up : (u : Update) → WordSound t u → HandSound t (with_up v u)
  hand_up u w = record { seq = h.seq; gp = h.gp; p = h.p; l = h.l; gpup = h.gpup; pup = h.pup; lup = h.lup; sup = h.sup; up = w; sibling = h.sibling; made = h.made; info = h.info }

  pub hand_pup : (u : Update) → WordSound t u → HandSound t (with_pup v u)
  hand_pup u w = record { seq = h.seq; gp = h.gp; p = h.p; l = h.l; gpup = h.gpup; pup = w; lup = h.lup; sup = h.sup; up = h.up; sibling = h.sibling; made = h.made; info = h.info }

  pub hand_gpup : (u : Update) → WordSound t u → HandSound t (with_gpup v u)
  hand_gpup u w = record { seq = h.seq; gp = h.gp; p = h.p; l = h.l; gpup = w; pup = h.pup; lup = h.lup; sup = h.sup; up = h.up; sibling = h.sibling; made = h.made; info = h.info }

  pub hand_sup : (u : Update) → WordSound t u → HandSound t (with_sup v u)
  hand_sup u w = record { seq = h.seq; gp = h.gp; p = h.p; l = h.l; gpup = h.gpup; pup = h.pup; lup = h.lup; sup = w; up = h.up; sibling = h.sibling; made = h.made; info = h.info }

  pub hand_lup : (u : Update) → WordSound t u → HandSound t (with_lup v u)
  hand_lup u w = record { seq = h.seq; gp = h.gp; p = h.p; l = h.l; gpup = h.gpup; pup = h.pup; lup = w; sup = h.sup; up = h.up; sibling = h.sibling; made = h.made; info = h.info }

  pub hand_sibling : (c : NodeNo) → c.0 < t.nodes → HandSound t (with_sibling v c)
  hand_sibling c l = record { seq = h.seq; gp = h.gp; p = h.p; l = h.l; gpup = h.gpup; pup = h.pup; lup = h.lup; sup = h.sup; up = h.up; sibling = l; made = h.made; info = h.info }

  pub hand-taken : (c : NodeNo) (r : RecordNo) → c.0 < t.nodes → r.0 < t.records → HandSound t (with_taken v c r)
  hand-taken c r l m = record { seq = h.seq; gp = h.gp; p = h.p; l = h.l; gpup = h.gpup; pup = h.pup; lup = h.lup; sup = h.sup; up = h.up; sibling = h.sibling; made = l; info = m }

  pub hand_i : (k : ℕ) → HandSound t (with_i v k)
  hand_i k = record { seq = h.seq; gp = h.gp; p = h.p; l = h.l; gpup = h.gpup; pup = h.pup; lup = h.lup; sup = h.sup; up = h.up; sibling = h.sibling; made = h.made; info = h.info }

module _ (s : Tables) (h : TablesSound s) where
  -- a phase, a node and a record; the other hands that are made anew are such
  pub hand_bare : (q : Phase) (x : NodeNo) (r : RecordNo) → q.0 ≤ s.totals.counter → x.0 < s.totals.nodes → r.0 < s.totals.records → HandSound s.totals (at_word q x r)
  hand_bare q x r a b c = record { seq = a; gp = tt; p = b; l = none; gpup = word; pup = word; lup = word; sup = word; up = word; sibling = none; made = none; info = c }
    where
      none : 0 < s.totals.nodes
      none = omega (arith, h.used.least_nodes)

      word : WordSound s.totals fresh_word
      word = record { type = omega arith; info = omega (arith, h.used.least_records) }

  pub hand-blank : HandSound s.totals blank
  hand-blank = hand_bare (phase 0) root dummy (omega arith) (omega (arith, h.used.least_nodes)) (omega (arith, h.used.least_records))

  pub hand-holding : (r : RecordNo) → r.0 < s.totals.records → HandSound s.totals (holding r)
  hand-holding r l = hand_bare (phase 0) root r (omega arith) (omega (arith, h.used.least_nodes)) l

  -- ---- putting good decisions together

  module _ (home : Place → Bool) (k n f : ℕ) where
    pub good_does : (e : Effect) (v : Locals) (q : Place) → Fits e s → HandSound (apply e s).totals v → Allowed home k (apply e s).records v n q → Good s home k n f (does e v q)
    unfolding pending_left
    good_does e v q fits hand at = record { fits = fits; hand = hand; pending = tt; found = tt; next = at }

    pub good_goes : (v : Locals) (q : Place) → HandSound s.totals v → Allowed home k s.records v n q → Good s home k n f (goes v q)
    unfolding pending_left apply
    good_goes v q hand at = record { fits = tt; hand = hand; pending = tt; found = tt; next = at }

    pub good_says : (a : Answer) → Good s home k n f (says a)
    unfolding apply
    good_says a = record { fits = tt; hand = hand-blank; pending = tt; found = tt; next = tt }

    pub good_retries : home place.Counter74 ≡ true → Good s home k n f retries
    good_retries e = good_goes blank place.Counter74 hand-blank (e, tt)

    pub good_helps : (r : RecordNo) → home (place.Help Counter111 Again) ≡ true → r.0 < s.totals.records → Good s home k n f (helps r)
    unfolding in_list
    good_helps r e l = good_goes (holding r) (place.Help Counter111 Again) (hand-holding r l) (e, λ i. let z : ◌≡◌ {A = ℕ} 0 1 = cc in absurd (omega arith))

    pub good_pick : (b : Bool) (x y : Decision) → (b ≡ true → Good s home k n f x) → (b ≡ false → Good s home k n f y) → Good s home k n f (pick b x y)
    good_pick b x y p q = fork (Good s home k n f) b p q

    pub good_through : (m : Option NodeNo) (g : NodeNo → Decision) → ((x : NodeNo) → m ≡ Some x → Good s home k n f (g x)) → Good s home k n f (through m g)
    unfolding through
    good_through None g go = tt
    good_through (Some x) g go = go x refl

  -- ---- nodes that a turn comes to are used

  pub parent_at : (m : Option NodeNo) (x : NodeNo) → as_parent s.nodes m ≡ Some x → MaybeSound s.totals m → (m ≡ Some x) × Parent s x
  unfolding as_parent
  parent_at None x e l = let z : ◌≡◌ {A = ℕ} 0 1 = cc in absurd (omega arith)
  parent_at (Some y) x e l = found (is_internal s.nodes y) refl e
    where
      found : (b : Bool) → is_internal s.nodes y ≡ b → pick b (Some y) None ≡ Some x → (Some y ≡ Some x) × Parent s x
      found true i g =
          let same : y ≡ x = unfold pick in cc in
          (ap Some same, record { used = rw (← same) l; internal = rw (← same) i })
      found false i g = let z : ◌≡◌ {A = ℕ} 0 1 = unfold pick in cc in absurd (omega arith)

  pub walk_used : (fuel : ℕ) (seq : Phase) (m : Option NodeNo) (y : NodeNo) → MaybeSound s.totals m → walk_back fuel s.nodes seq m ≡ Some y → y.0 < s.totals.nodes
  unfolding walk_back
  walk_used zero seq m y l e = let z : ◌≡◌ {A = ℕ} 0 1 = cc in absurd (omega arith)
  walk_used (suc k) seq None y l e = let z : ◌≡◌ {A = ℕ} 0 1 = cc in absurd (omega arith)
  walk_used (suc k) seq (Some x) y l e = found (leb (phase_at s.nodes x).0 seq.0) e (walk_used k seq (prev_at s.nodes x) y (back (prev_at s.nodes x) (unfold fixed_at in (h.nodes x.0 l).prev)))
    where
      back : (m : Option NodeNo) → PrevSound x.0 m → MaybeSound s.totals m
      back None p = tt
      back (Some z) p = omega (arith, l)

      found : (b : Bool) → pick b (Some x) (walk_back k s.nodes seq (prev_at s.nodes x)) ≡ Some y → (walk_back k s.nodes seq (prev_at s.nodes x) ≡ Some y → y.0 < s.totals.nodes) → y.0 < s.totals.nodes
      found true g further = let same : x ≡ y = unfold pick in cc in rw (← same) l
      found false g further = further (unfold pick in g)

  pub child_used : (x : NodeNo) → Parent s x → (left : Bool) → (child_at s.nodes x left).0 < s.totals.nodes
  child_used x p true = ((h.nodes x.0 p.used).parents (kind_one s.nodes x p.internal)).0
  child_used x p false = ((h.nodes x.0 p.used).parents (kind_one s.nodes x p.internal)).1

  pub read_used : (used : ℕ) (x : NodeNo) (left : Bool) (seq : Phase) (c : NodeNo) → Parent s x → read_child used s.nodes x left seq ≡ Some c → c.0 < s.totals.nodes
  unfolding read_child
  read_used used x left seq c p e = walk_used used seq (Some (child_at s.nodes x left)) c (child_used x p left) e
