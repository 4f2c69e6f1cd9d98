-- A worker of a board, a board with one worker anew, and a reply that refuses.
use Rattle.std.specs.Prelude.{ℕ, get_or, set, Err}
use Rattle.shapes.specs.declared.Board.{Board}
use Rattle.shapes.specs.declared.Totals.{Totals}
use Rattle.shapes.specs.declared.Worker.{Worker}
use Rattle.shapes.specs.declared.Reply.{Reply}
use Rattle.shapes.specs.declared.Refusal.{Refusal}
use Rattle.tables.specs.World.{idle}

-- past the last worker an idle one
abbrev pub worker_of : Board → ℕ → Worker
worker_of b w = get_or b.workers w idle

abbrev pub with_worker : Board → Totals → ℕ → Worker → Board
with_worker b t w k = record { totals = t; workers = set b.workers w k }

-- 01, 'Refusal numbers': all as before
abbrev pub refused_by : Board → Refusal → Reply
refused_by b r = record { board = b; outcome = Err r }
