-- A start by the board alone: what the lent lists hold matters only to the look at them.
use Rattle.std.specs.Prelude.{ℕ, ◌≡◌, refl, true, ltb, Option, None, Some, Ok}
use Rattle.std.proofs.Common.{sym, ap, ◌∙◌}
use Rattle.laws.specs.Choice.{pick, pick_true, through-pick}
use Rattle.shapes.specs.declared.Board.{Board}
use Rattle.shapes.specs.declared.Worker.{Worker}
use Rattle.shapes.specs.declared.Reply.{Reply}
use Rattle.shapes.specs.declared.Operation.{Operation}
use Rattle.shapes.specs.declared.Refusal.TheVariants as refusal
use Rattle.tables.specs.World.{World, blank, worker_at}
use Rattle.tables.specs.Fresh.{Left, left, refused}
use Rattle.sound.specs.Sound.{sound_of}
use Rattle.steps.specs.Turn.{started, begin, start_of}
use Rattle.boards.specs.Boards.{worker_of, with_worker, refused_by}

-- 01, 'What one turn is': "its next start, which sets that count to 0"
abbrev pub holding : Worker → Operation → Worker
holding k o = record { operation = Some o; hand = blank; pending = k.pending; found = 0 }

-- refusal 4
unfoldable pub begun : Board → ℕ → Operation → Option Operation → Reply
begun b w o None = record { board = with_worker b b.totals w (holding (worker_of b w) o); outcome = Ok None }
begun b w o (Some old) = refused_by b refusal.Busy

-- refusal 3, then 4
unfoldable pub admitted : Board → ℕ → Operation → Reply
admitted b w o = pick (ltb w b.totals.p) (begun b w o (worker_of b w).operation) (refused_by b refusal.Worker)

-- the board alone decides what begins
begins : (s : World) (w : ℕ) (o : Operation) (q : Option Operation) → begin s w (worker_at s w) o q ≡ left (begun s.board w o q) s.nodes s.records s.pending s.found
unfolding begin begun started worker_at
begins s w o None = refl
begins s w o (Some old) = refl

-- on sound tables a start is that of 01
pub sound_start : (s : World) (w : ℕ) (o : Operation) → sound_of s ≡ true → start_of s w o ≡ left (admitted s.board w o) s.nodes s.records s.pending s.found
unfolding start_of admitted worker_at
sound_start s w o h =
    pick_true _ _ _ h ∙
    ap (λ (d : Left). pick (ltb w s.board.totals.p) d (refused s refusal.Worker)) (begins s w o (worker_of s.board w).operation) ∙
    sym (through-pick (λ (r : Reply). left r s.nodes s.records s.pending s.found) (ltb w s.board.totals.p) (begun s.board w o (worker_of s.board w).operation) (refused_by s.board refusal.Worker))
