-- 01, 'Fresh tables' and refusal 2, on tables lent full of nines (Play.lent: P = 3, each three places longer than it need be).
use Rattle.std.specs.Prelude.{ℕ, ◌≡◌, refl, [], ◌∷◌, replicate, take, drop, pos, None, Ok, Err}
use Rattle.shapes.specs.declared.Place.TheVariants as place
use Rattle.shapes.specs.declared.Operation.TheVariants.{Find}
use Rattle.shapes.specs.declared.Worker.{Worker}
use Rattle.shapes.specs.declared.Refusal.TheVariants as refusal
use Rattle.shapes.specs.Outcomes.{Outcome}
use Rattle.tables.specs.Names.{key_of}
use Rattle.tables.specs.World.{World, blank, idle, worker_at}
use Rattle.tables.specs.Fresh.{refused, fresh_of}
use Rattle.steps.proofs.Kept.{fresh_keeps}
use Rattle.steps.specs.Opened.{steps_opened}
use Rattle.steps.specs.Play.{lent}
use Rattle.steps.specs.Hands.{with_worker, busy, cut}

-- a worker in the middle of something
abbrev pub old : Worker
old = busy (Find (key_of (pos 5)) place.Search39) blank 1 2

-- N = 8, M = 2 and three workers, where worker 2 and the one behind P were busy
unfoldable pub made : World
made = (fresh_of 8 2 3 (with_worker 2 old (with_worker 3 old (lent 8 2)))).world

-- N, M, P asked of tables for the largest N and M that are too large by one
unfoldable pub asked : ℕ → ℕ → ℕ → Outcome
asked n m p = (fresh_of n m p (lent 1025 513)).outcome

-- lent so many places of each table, where 80, 44, 24 and 24 are needed
unfoldable pub short : ℕ → ℕ → ℕ → ℕ → Outcome
short a b c d = (fresh_of 8 2 3 (cut a b c d (lent 8 2))).outcome

pub record FreshTables : Type 0 where
  -- 'node 0 is the Root: internal, ∞2, children 1 and 2. Node 1 is a leaf ∞1, node 2 a leaf ∞2. All have phase 0 and no prev'
  pub root : take 10 made.nodes ≡ 1 ∷ 2 ∷ 0 ∷ 0 ∷ 0 ∷ 0 ∷ 1 ∷ 2 ∷ 0 ∷ 0 ∷ []
  pub node1 : take 10 (drop 10 made.nodes) ≡ 0 ∷ 1 ∷ 0 ∷ 0 ∷ 0 ∷ 0 ∷ 0 ∷ 0 ∷ 0 ∷ 0 ∷ []
  pub node2 : take 10 (drop 20 made.nodes) ≡ 0 ∷ 2 ∷ 0 ∷ 0 ∷ 0 ∷ 0 ∷ 0 ∷ 0 ∷ 0 ∷ 0 ∷ []
  -- 'every other place and field within the sizes asked for is 0 or absent; what lies beyond them keeps its contents'
  pub other_nodes : take 50 (drop 30 made.nodes) ≡ replicate 50 0
  pub beyond_nodes : drop 80 made.nodes ≡ 9 ∷ 9 ∷ 9 ∷ []
  -- 'record 0 is the dummy, state ABORT'
  pub dummy : take 3 made.records ≡ 0 ∷ 3 ∷ 0 ∷ []
  pub other_records : take 42 (drop 2 made.records) ≡ replicate 42 0
  pub beyond_records : drop 44 made.records ≡ 9 ∷ 9 ∷ 9 ∷ []
  pub pending_places : take 24 made.pending ≡ replicate 24 0
  pub beyond_pending : drop 24 made.pending ≡ 9 ∷ 9 ∷ 9 ∷ []
  pub found_places : take 24 made.found ≡ replicate 24 (pos 0)
  pub beyond_found : drop 24 made.found ≡ pos 9 ∷ pos 9 ∷ pos 9 ∷ []
  -- 'Counter is 0, every worker idle with no pending and no found keys'
  pub totals : made.board.totals ≡ record { n = 8; m = 2; p = 3; nodes = 3; records = 1; counter = 0 }
  pub worker2 : worker_at made 2 ≡ idle
  pub beyond_workers : worker_at made 3 ≡ old
  -- refusal 2: N, M or P outside the sizes, one too few and one too many
  pub sizes : asked 8 2 1 ∷ asked 1024 512 3 ∷ [] ≡ Ok None ∷ (Ok None) ∷ []
  pub too_few : asked 7 2 1 ∷ asked 8 1 1 ∷ asked 8 2 0 ∷ [] ≡ Err refusal.Size ∷ Err refusal.Size ∷ Err refusal.Size ∷ []
  pub too_many : asked 1025 2 1 ∷ asked 8 513 1 ∷ asked 8 2 9 ∷ [] ≡ Err refusal.Size ∷ Err refusal.Size ∷ Err refusal.Size ∷ []
  -- or tables lent too short for them
  pub whole : short 80 44 24 24 ≡ Ok None
  pub too_short : short 79 44 24 24 ∷ short 80 43 24 24 ∷ short 80 44 23 24 ∷ short 80 44 24 23 ∷ [] ≡ Err refusal.Size ∷ Err refusal.Size ∷ Err refusal.Size ∷ Err refusal.Size ∷ []
  -- all as before
  pub kept : fresh_of 7 2 1 (lent 8 2) ≡ refused (lent 8 2) refusal.Size

pub fresh_tables : FreshTables
unfolding steps_opened made asked short
fresh_tables = record {
  root = refl;
  node1 = refl;
  node2 = refl;
  other_nodes = refl;
  beyond_nodes = refl;
  dummy = refl;
  other_records = refl;
  beyond_records = refl;
  pending_places = refl;
  beyond_pending = refl;
  found_places = refl;
  beyond_found = refl;
  totals = refl;
  worker2 = refl;
  beyond_workers = refl;
  sizes = refl;
  too_few = refl;
  too_many = refl;
  whole = refl;
  too_short = refl;
  kept = fresh_keeps 7 2 1 (lent 8 2) refusal.Size refl;
}
