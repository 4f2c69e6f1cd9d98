-- A worker's own turn, whatever it holds: what it knows next.
use Rattle.std.specs.Prelude.{ℕ, suc, ◌≡◌, List, None, Some}
use Rattle.std.proofs.Math.Path.{refl}
use Rattle.shapes.specs.declared.Key.{Key}
use Rattle.shapes.specs.declared.Worker.{Worker}
use Rattle.shapes.specs.declared.Kind.{Kind}
use Rattle.shapes.specs.declared.Kind.TheVariants as kind
use Rattle.shapes.specs.declared.Place.{Place}
use Rattle.shapes.specs.declared.Operation.{Operation}
use Rattle.shapes.specs.declared.Operation.TheVariants.{Insert, Delete, Find, Scan}
use Rattle.shapes.specs.declared.Next.{Next}
use Rattle.shapes.specs.declared.Next.TheVariants as next
use Rattle.shapes.specs.declared.Step.{Step}
use Rattle.shapes.specs.Outcomes.{Decision}
use Rattle.tables.specs.World.{Tables}
use Rattle.sound.specs.Meaning.{TablesSound}
use Rattle.steps.specs.Scan.{Lists}
use Rattle.steps.specs.Decide.{attempt, scan, decide}
use Rattle.steps.specs.Apply.{apply}
use Rattle.steps.specs.Turn.{moved, worker_next}
use Rattle.views.specs.View.{View, view}
use Rattle.protocol.specs.Ghost.{Ghost}
use Rattle.protocol.specs.Invariant.{Holds}
use Rattle.protocol.specs.Trees.{Linked, Version}
use Rattle.protocol.specs.HelpTurns.{Gives}
use Rattle.protocol.specs.AttemptPlaces.{AttemptKnows, NextKnows}
use Rattle.protocol.specs.AttemptTurns.{gives_more, Decides}
use Rattle.protocol.specs.AttemptMoves.{attempt_decides}
use Rattle.protocol.specs.Waiting.{Tied, waits_next}
use Rattle.protocol.specs.ScanChild.{Onward, Decided}
use Rattle.protocol.specs.ScanMoves.{scan_moves}
use Rattle.bound.specs.Knows.{OperationKnows, Knows}

module _ (w : ℕ) (s : Tables) (h : TablesSound s) (G : Ghost) (H : Holds (view s) G) (root : Linked G 0) (versions : (i : ℕ) → Version (view s) i) (k : Worker) (us : List ℕ) (T : ℕ) where
  -- what worker w, that is k, with us pending and after T turns, is to know after a decision
  abbrev pub Moves : Operation → Decision → Type 0
  Moves o None = Unit {0}
  Moves o (Some d) = Gives w (view s) (view (apply d.effect s)) G (λ G'. Knows w (view (apply d.effect s)) G' (waits_next us d.pending) (suc T) (worker_next k o d d.next))

  -- the operation of an attempt
  abbrev held : Kind → Key → Place → Operation
  held kind.Insert x q = Insert x q
  held kind.Delete x q = Delete x q
  held kind.Find x q = Find x q

  attempt_knows : (o : Kind) (x : Key) (q : Place) (d : Step) (n : Next) (X : View) (G' : Ghost) → NextKnows w X G' o x d.hand n → Knows w X G' (waits_next us d.pending) (suc T) (worker_next k (held o x q) d n)
  unfolding worker_next moved
  attempt_knows kind.Insert x q d (next.At r) X G' known = known
  attempt_knows kind.Delete x q d (next.At r) X G' known = known
  attempt_knows kind.Find x q d (next.At r) X G' known = known
  attempt_knows o x q d (next.Answers a) X G' known = refl

  attempt_next : (o : Kind) (x : Key) (q : Place) (e : Decision) → Decides w s G o x e → Moves (held o x q) e
  attempt_next o x q None g = tt
  attempt_next o x q (Some d) g = gives_more (λ G' _ _. attempt_knows o x q d d.next (view (apply d.effect s)) G') g

  scan-onward : (a b : Key) (q : Place) (d : Step) (n : Next) → Onward w s G k.hand.seq.0 us k.found T d n
      → Gives w (view s) (view (apply d.effect s)) G (λ G'. Knows w (view (apply d.effect s)) G' (waits_next us d.pending) (suc T) (worker_next k (Scan a b q) d n))
  unfolding worker_next moved
  scan-onward a b q d (next.At r) g = g
  scan-onward a b q d (next.Answers x) g = gives_more (λ G' _ _ known. refl) g.0

  scan_next : (a b : Key) (q : Place) (e : Decision) → Decided w s G k.hand.seq.0 us k.found T e → Moves (Scan a b q) e
  scan_next a b q None g = tt
  scan_next a b q (Some d) g = scan-onward a b q d d.next g

  attempt_own : (o : Kind) (x : Key) (q : Place) → AttemptKnows w (view s) G o x k.hand q → Moves (held o x q) (attempt s o x k.hand q)
  attempt_own o x q known = attempt_next o x q (attempt s o x k.hand q) (attempt_decides w s h G H root versions o x k.hand q known)

  pub own_moves : (ls : Lists) → ls.found ≡ k.found → Tied ls us → (o : Operation) → OperationKnows w (view s) G k.hand us k.found T o → Moves o (decide s ls o k.hand)
  unfolding decide
  own_moves ls same t (Insert x q) known = attempt_own kind.Insert x q known
  own_moves ls same t (Delete x q) known = attempt_own kind.Delete x q known
  own_moves ls same t (Find x q) known = attempt_own kind.Find x q known
  own_moves ls same t (Scan a b q) known = scan_next a b q (scan s ls a b k.hand q) (rw (← same) (scan_moves w s h G H a b k.hand ls T root (versions _) us t q (rw same known)))
