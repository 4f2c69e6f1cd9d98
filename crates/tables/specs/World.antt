-- All that is lent and kept.
use Rattle.std.specs.Prelude.{ℕ, ◌+◌, ◌*◌, List, get_or, ℤ, None}
use Rattle.shapes.specs.declared.NodeNo.{NodeNo}
use Rattle.shapes.specs.declared.Totals.{Totals}
use Rattle.shapes.specs.declared.Board.{Board}
use Rattle.shapes.specs.declared.Locals.{Locals}
use Rattle.shapes.specs.declared.Worker.{Worker}
use Rattle.tables.specs.Names.{node, phase, root, dummy, fresh_word}

-- what the workers share
pub record Tables : Type 0 where
  pub totals : Totals
  pub nodes : List ℕ
  pub records : List ℕ

pub record World : Type 0 where
  pub board : Board
  pub nodes : List ℕ
  pub records : List ℕ
  pub pending : List ℕ
  pub found : List ℤ

abbrev pub world : Board → List ℕ → List ℕ → List ℕ → List ℤ → World
world b ns rs ps fs = record { board = b; nodes = ns; records = rs; pending = ps; found = fs }

abbrev pub tables : Totals → List ℕ → List ℕ → Tables
tables t ns rs = record { totals = t; nodes = ns; records = rs }

abbrev pub totals_of : World → Totals
totals_of s = s.board.totals

abbrev pub tables_of : World → Tables
tables_of s = tables s.board.totals s.nodes s.records

-- nothing in hand
abbrev pub blank : Locals
blank = record { seq = phase 0; gp = None; p = root; l = root; gpup = fresh_word; pup = fresh_word; lup = fresh_word; sup = fresh_word; up = fresh_word; sibling = root; made = root; info = dummy; i = 0 }

abbrev pub idle : Worker
idle = record { operation = None; hand = blank; pending = 0; found = 0 }

unfoldable pub worker_at : World → ℕ → Worker
worker_at s w = get_or s.board.workers w idle

-- place i of worker w's lists, N places for each worker
unfoldable pub spot : Totals → ℕ → ℕ → ℕ
spot t w i = w * t.n + i

unfoldable pub pending_at : World → ℕ → ℕ → NodeNo
pending_at s w i = node (get_or s.pending (spot (totals_of s) w i) 0)
