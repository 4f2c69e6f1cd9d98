-- A turn of an attempt: what it decides gives what its next place knows. Turns that only read, HELP's turns, and how a choice or a node that may be absent is gone through.
use Rattle.std.specs.Prelude.{ℕ, ◌<◌, Bool, true, Option, None, Some}
use Rattle.std.proofs.Math.Path.{◌≡◌, refl}
use Rattle.std.proofs.Common.{ap, inl, arith}
use Rattle.std.proofs.Math.Bool.{false}
use Rattle.laws.specs.Choice.{pick, fork}
use Rattle.shapes.specs.declared.NodeNo.{NodeNo}
use Rattle.shapes.specs.declared.Key.{Key}
use Rattle.shapes.specs.declared.Locals.{Locals}
use Rattle.shapes.specs.declared.Update.{Update}
use Rattle.shapes.specs.declared.Kind.{Kind}
use Rattle.shapes.specs.declared.HelpStep.{HelpStep}
use Rattle.shapes.specs.declared.HelpStep.TheVariants.{Counter111}
use Rattle.shapes.specs.declared.HelpMove.{HelpMove}
use Rattle.shapes.specs.declared.HelpMove.TheVariants as help
use Rattle.shapes.specs.declared.Back.{Back}
use Rattle.shapes.specs.declared.Back.TheVariants as back
use Rattle.shapes.specs.declared.Place.{Place}
use Rattle.shapes.specs.declared.Place.TheVariants as place
use Rattle.shapes.specs.declared.Effect.{Effect}
use Rattle.shapes.specs.declared.Answer.{Answer}
use Rattle.shapes.specs.declared.Answer.TheVariants.{Yes}
use Rattle.shapes.specs.Outcomes.{Decision}
use Rattle.tables.specs.Nodes.{is_internal}
use Rattle.tables.specs.Records.{aborted}
use Rattle.tables.specs.Versions.{as_parent}
use Rattle.tables.specs.World.{Tables, blank}
use Rattle.sound.specs.Meaning.{TablesSound}
use Rattle.steps.specs.Apply.{apply}
use Rattle.steps.specs.Hand.{holding, with_i, does, goes, says, retries, helps, through}
use Rattle.steps.specs.Help.{help_of, back_to, help_next}
use Rattle.views.specs.View.{View, view}
use Rattle.protocol.specs.Ghost.{Ghost, Seen}
use Rattle.protocol.specs.Invariant.{Holds}
use Rattle.protocol.specs.Rely.{Rely, rely_same}
use Rattle.protocol.specs.Trees.{TreeStep}
use Rattle.protocol.specs.Words.{helps-word}
use Rattle.protocol.specs.Helper.{Helps}
use Rattle.protocol.specs.HelpTurns.{Gives}
use Rattle.protocol.specs.HelpMoves.{Moved, help_moves}
use Rattle.protocol.specs.AttemptPlaces.{HelpKnows, AttemptKnows, NextKnows}

-- ---- turns in the view

-- nothing is changed
pub gives_same : (w : ℕ) (X : View) (G : Ghost) {Q : Ghost → Type 0} → Holds X G → Q G → Gives w X X G Q
gives_same w X G H q = record { after = G; holds = H; rely = rely_same w X G; trees = inl (record { fixed = λ n u. refl; kid = λ e n u. refl }); knows = q }

-- what follows from what a turn gives, and from what all may count on
pub gives_more : {w : ℕ} {X X' : View} {G : Ghost} {P Q : Ghost → Type 0} → ((G' : Ghost) → Rely w X X' G G' → TreeStep X X' G G' → P G' → Q G') → Gives w X X' G P → Gives w X X' G Q
gives_more f g = record { after = g.after; holds = g.holds; rely = g.rely; trees = g.trees; knows = f g.after g.rely g.trees g.knows }

-- ---- turns in the tables

-- what a decision of an attempt at key k comes to; a crooked one leaves all as before
abbrev pub Decides : (w : ℕ) → Tables → Ghost → Kind → Key → Decision → Type 0
Decides w s G o k None = Unit {0}
Decides w s G o k (Some d) = Gives w (view s) (view (apply d.effect s)) G (λ G'. NextKnows w (view (apply d.effect s)) G' o k d.hand d.next)

module _ (w : ℕ) (s : Tables) (G : Ghost) (H : Holds (view s) G) (o : Kind) (k : Key) where
  pub does_knows : (e : Effect) (v : Locals) (q : Place) → Gives w (view s) (view (apply e s)) G (λ G'. AttemptKnows w (view (apply e s)) G' o k v q) → Decides w s G o k (does e v q)
  does_knows e v q g = g

  pub goes_knows : (v : Locals) (q : Place) → AttemptKnows w (view s) G o k v q → Decides w s G o k (goes v q)
  unfolding apply
  goes_knows v q h = gives_same w (view s) G H h

  pub says_knows : (a : Answer) → Decides w s G o k (says a)
  unfolding apply
  says_knows a = gives_same w (view s) G H tt

  pub retries_knows : Decides w s G o k retries
  retries_knows = goes_knows blank place.Counter74 tt

  -- lines 54 and 99: the word that was read is frozen
  pub helps_knows : (v : ℕ) (u : Update) → Seen (view s) G v u → (view s).state u.info.0 < aborted → Decides w s G o k (helps u.info)
  helps_knows v u seen open' = goes_knows (holding u.info) (place.Help Counter111 back.Again) (helps-word (view s) G H v u seen open')

  pub with-node : (m : Option NodeNo) (f : NodeNo → Decision) → ((x : NodeNo) → m ≡ Some x → Decides w s G o k (f x)) → Decides w s G o k (through m f)
  unfolding through
  with-node None f h = tt
  with-node (Some x) f h = h x refl

  pub by_test : (b : Bool) (x y : Decision) → (b ≡ true → Decides w s G o k x) → (b ≡ false → Decides w s G o k y) → Decides w s G o k (pick b x y)
  by_test b x y f g = fork (Decides w s G o k) b f g

  -- ---- HELP

  backs : (b : HelpStep) (c : Back) (v : Locals) (done : Bool) → HelpKnows (view s) G v b c → Decides w s G o k (back_to c v done)
  unfolding back_to
  backs b back.Own v done h = by_test done _ _ (λ _. says_knows Yes) (λ _. retries_knows)
  backs b back.Again v done h = retries_knows
  backs b back.Node v done h = absurd h

  known : (b : HelpStep) (c : Back) (v : Locals) → HelpKnows (view s) G v b c → Helps (view s) G v.info.0 v.i b
  known b back.Own v h = h
  known b back.Again v h = h
  known b back.Node v h = absurd h

  next_help : (b : HelpStep) (c : Back) (v : Locals) (X : View) (G' : Ghost) (i : ℕ) (d : HelpStep) → HelpKnows (view s) G v b c → Helps X G' v.info.0 i d → HelpKnows X G' (with_i v i) d c
  next_help b back.Own v X G' i d h g = g
  next_help b back.Again v X G' i d h g = g
  next_help b back.Node v X G' i d h g = absurd h

  pub help_decides : TablesSound s → (b : HelpStep) (c : Back) (v : Locals) → HelpKnows (view s) G v b c → Decides w s G o k (help_next c v (help_of s v.info v.i b))
  unfolding help_next
  help_decides sound b c v h = by (help_of s v.info v.i b) (help_moves w s sound G H v.info.0 (known b c v h).shown v.i b (known b c v h).at)
    where
      by : (m : Option HelpMove) → Moved w s sound G H v.info.0 (known b c v h).shown m → Decides w s G o k (help_next c v m)
      by None g = absurd g
      by (Some (help.Goes e i d)) g = does_knows e (with_i v i) (place.Help d c) (gives_more (λ G' _ _ q. next_help b c v (view (apply e s)) G' i d h q) g)
      by (Some (help.Done done)) g = backs b c v done h

-- ---- a node used as parent

pub parent_is : (s : Tables) (m : Option NodeNo) (x : NodeNo) → as_parent s.nodes m ≡ Some x → (m ≡ Some x) × (is_internal s.nodes x ≡ true)
unfolding as_parent
parent_is s None x e = let z : ◌≡◌ {A = ℕ} 0 1 = cc in absurd (omega arith)
parent_is s (Some y) x e = found (is_internal s.nodes y) refl e
  where
    found : (b : Bool) → is_internal s.nodes y ≡ b → pick b (Some y) None ≡ Some x → (Some y ≡ Some x) × (is_internal s.nodes x ≡ true)
    found true i g = let same : y ≡ x = unfold pick in cc in (ap Some same, rw (← same) i)
    found false i g = let z : ◌≡◌ {A = ℕ} 0 1 = unfold pick in cc in absurd (omega arith)
