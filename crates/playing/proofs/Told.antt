-- What a start's reply and a run tell: the code's answer with the lists as they stand is the definition's.
use Prim.Native.Nat.{ℕ}
use mathlib.Core.Path.{◌≡◌, refl, sym, ap, ◌∙◌}
use mathlib.Core.List.{List}
use lib.ListN.{get_or, set}
use lib.IntN.{ℤ}
use Rattle.shapes.specs.declared.Board.{Board}
use Rattle.shapes.specs.declared.Reply.{Reply}
use Rattle.shapes.specs.declared.Run.{Run}
use Rattle.tables.specs.World.{World, world}
use Rattle.lending.specs.declared.Lent.{Lent}
use Rattle.lending.specs.declared.Shown.{Shown}
use Rattle.lending.specs.Lent.{lent_world, shown_world, lent_left, shown_left}
use Rattle.tables.specs.Fresh.{Left, left}
use Rattle.steps.specs.Turn.{Ran}
use Rattle.tally.specs.declared.Played.{Played}
use Rattle.tally.specs.Playing.{told, played, counted, started_counts, line_of, begun, ran}

pub begun-told : (number w : ℕ) (counts : List ℕ) {reply : Reply} {ns rs ps : List ℕ} {fs : List ℤ} {d : Left} {r : Played} → left reply ns rs ps fs ≡ d → r ≡ played reply.board (started_counts reply.outcome w counts) (line_of number w reply.outcome 0) → told r ns rs ps fs ≡ begun number w counts d
unfolding begun
begun-told number w counts e f = rw (← e, f) refl

pub ran-told : (number w : ℕ) (counts : List ℕ) {run : Run} {ns rs ps : List ℕ} {fs : List ℤ} {d : Ran} {r : Played} → ◌≡◌ {A = Ran} (record { world = world run.board ns rs ps fs; outcome = run.outcome; turns = run.turns }) d → r ≡ played run.board (set counts w (counted (get_or counts w 0) run.turns)) (line_of number w run.outcome (counted (get_or counts w 0) run.turns)) → told r ns rs ps fs ≡ ran counted number w counts d
unfolding ran
ran-told number w counts e f = rw (← e, f) refl

-- a start that only read the lists, as a start on the lists that are lent
pub started_on : (reply : Reply) (l : Shown) (m : Lent) (b : Board) (f : World → Left) → ((c : Board) → shown_world c l ≡ lent_world c m) → shown_left reply l ≡ f (shown_world b l) → lent_left reply m ≡ f (lent_world b m)
started_on reply l m b f same e =
    let P : World → Left = λ s. record { world = s; outcome = reply.outcome } in
    ap P (sym (same reply.board)) ∙ e ∙ ap f (same b)
