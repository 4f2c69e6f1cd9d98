-- What holds after every history, and that fresh tables have it.
use Rattle.std.specs.Prelude.{ℕ, ◌*◌, ◌≤◌, ◌<◌, ◌≡◌, refl, List, true, ◌&&◌, length, get_or, drop, replicate}
use Rattle.std.proofs.Common.{◌∙◌, arith, length-append}
use Rattle.std.proofs.lemmas.List.{length-replicate, get_or-replicate}
use Rattle.std.proofs.Math.ListN.{get_or-append}
use Rattle.laws.specs.Tests.{says_and}
use Rattle.shapes.specs.declared.Worker.{Worker}
use Rattle.tables.specs.Rows.{HasRows}
use Rattle.tables.specs.Nodes.{node_width}
use Rattle.tables.specs.World.{World, totals_of, tables_of, idle, worker_at}
use Rattle.tables.specs.Fresh.{sizes_ok, lent_ok, cleared, fresh_board, fresh_world}
use Rattle.sound.specs.Meaning.{SizesSound, Sound}
use Rattle.sound.specs.Agree.{says_sizes, says-lent}
use Rattle.kept.specs.Fresh.{world-fresh}
use Rattle.views.specs.View.{view}
use Rattle.protocol.specs.Ghost.{Ghost}
use Rattle.protocol.specs.Invariant.{Holds}
use Rattle.protocol.specs.Trees.{Linked, Version}
use Rattle.protocol.specs.Waiting.{waiting}
use Rattle.bound.specs.FreshHolds.{no_ghost, fresh_holds}
use Rattle.bound.specs.FreshVersions.{fresh-version}
use Rattle.bound.specs.Knows.{Knows}

-- the pending nodes of worker w
abbrev pub waiting_at : World → ℕ → List ℕ
waiting_at s w = waiting (totals_of s) s.pending w (worker_at s w).pending

-- for p workers; T: for each worker the accepted turns of its operation
pub record Reached (p : ℕ) (s : World) (T : ℕ → ℕ) : Type 0 where
  pub sound : Sound s
  pub workers : (totals_of s).p ≡ p
  -- each worker has its place on the board
  pub seats : (totals_of s).p ≤ length s.board.workers
  pub ghost : Ghost
  pub holds : Holds (view (tables_of s)) ghost
  pub root : Linked ghost 0
  pub versions : (i : ℕ) → Version (view (tables_of s)) i
  pub knows : (w : ℕ) → w < (totals_of s).p → Knows w (view (tables_of s)) ghost (waiting_at s w) (T w) (worker_at s w)

-- ---- fresh tables

length_more : (k : ℕ) (l : List Worker) → k ≤ length (cleared k idle l)
unfolding cleared
length_more k l = rw (length-append (replicate k idle) (drop k l), length-replicate k idle) (omega arith)

idle-at : (k : ℕ) (l : List Worker) (w : ℕ) → w < k → get_or (cleared k idle l) w idle ≡ idle
unfolding cleared
idle-at k l w h = get_or-append (replicate k idle) (drop k l) idle w (rw (length-replicate k idle) h) ∙ get_or-replicate k w idle idle h

module _ (n m p : ℕ) (s : World) (fits : (sizes_ok n m p && lent_ok n m p s) ≡ true) where
  fresh_is_sound : Sound (fresh_world n m p s)
  fresh_is_sound = let both = (says_and (says_sizes n m p) (says-lent n m p s)).out fits in world-fresh n m p s both.0 both.1.0 both.1.1 both.1.2 both.1.3

  sizes : SizesSound n m p
  sizes = ((says_and (says_sizes n m p) (says-lent n m p s)).out fits).0

  node-room : n * node_width ≤ length s.nodes
  node-room = unfold HasRows in ((says_and (says_sizes n m p) (says-lent n m p s)).out fits).1.0

  worker_idle : (w : ℕ) → w < p → worker_at (fresh_world n m p s) w ≡ idle
  unfolding worker_at fresh_world fresh_board
  worker_idle w l = idle-at p s.board.workers w l

  pub fresh_reached : Reached p (fresh_world n m p s) (λ w. 0)
  unfolding fresh_world fresh_board
  fresh_reached = record {
    sound = fresh_is_sound;
    workers = refl;
    seats = length_more p s.board.workers;
    ghost = no_ghost 3;
    holds = fresh_holds (tables_of (fresh_world n m p s)) fresh_is_sound.shared refl;
    root = unfold no_ghost in refl;
    versions = λ i. fresh-version n (omega (arith, sizes.n_at_least)) s.nodes node-room _ _ i;
    knows = λ w l. rw (worker_idle w l) refl;
  }
