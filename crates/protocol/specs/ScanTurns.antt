-- A scan's turns at lines 131, 139 and 140 and inside HELP: never crooked, and it knows what its next place needs.
use Rattle.std.specs.Prelude.{ℕ, suc, ◌+◌, ◌≤◌, ◌<◌, refl, List, [], ltb, Option, None, Some}
use Rattle.std.proofs.Common.{inl, arith}
use borrow.Author.Tests.{ltb-true}
use Rattle.laws.specs.Choice.{fork}
use Rattle.shapes.specs.Numbers.{last_phase}
use Rattle.shapes.specs.declared.Locals.{Locals}
use Rattle.shapes.specs.declared.HelpStep.{HelpStep}
use Rattle.shapes.specs.declared.HelpMove.{HelpMove}
use Rattle.shapes.specs.declared.HelpMove.TheVariants as help
use Rattle.shapes.specs.declared.Back.TheVariants.{Node}
use Rattle.shapes.specs.declared.Place.TheVariants as place
use Rattle.shapes.specs.Outcomes.{Decision}
use Rattle.tables.specs.Names.{node, record_no}
use Rattle.tables.specs.Nodes.{update_at}
use Rattle.tables.specs.NodeWrites.{fixed_at}
use Rattle.tables.specs.Records.{committed, state_at, count_at, in_progress}
use Rattle.tables.specs.RecordWrites.{filling_at}
use Rattle.tables.specs.World.{Tables}
use Rattle.sound.specs.Meaning.{TablesSound}
use Rattle.steps.specs.Apply.{apply, bumped}
use Rattle.steps.specs.Help.{help_of, help_next, back_to}
use Rattle.steps.specs.Scan.{bump131, word139, state140}
use Rattle.steps.specs.Turn.{found_left}
use Rattle.views.specs.View.{View, view, w_counter}
use Rattle.protocol.specs.Ghost.{Ghost, Filled}
use Rattle.protocol.specs.Invariant.{Holds}
use Rattle.protocol.specs.Rely.{Rely, rely_counter, counter_holds}
use Rattle.protocol.specs.Trees.{leaf_of, Linked, Version, TreeStep}
use Rattle.protocol.specs.Words.{seen_now, helps-word}
use Rattle.protocol.specs.Walks.{starts}
use Rattle.protocol.specs.Helper.{Shown}
use Rattle.protocol.specs.HelpMoves.{Moved, help_moves}
use Rattle.protocol.specs.HelpCount.{Falls, help_falls}
use Rattle.protocol.specs.ScanPlaces.{help_left, AtNode, Begun, ScanKnows}
use Rattle.protocol.specs.ScanKept.{at_kept}
use Rattle.protocol.specs.ScanChild.{Decided, on_through, looks, as_parent_lem}

-- the turns are paid otherwise: with so many taken, and so many not paid by nodes visited
paid : (X : View) (G : Ghost) {i p keys T more : ℕ} {us : List ℕ} (t m : ℕ) → t + more ≤ T + m → AtNode X G i p us keys T more → AtNode X G i p us keys t m
paid X G t m l k = record { on = record { visited = k.on.visited; leaves = k.on.leaves; walks = k.on.walks; keys = k.on.keys; turns = omega (arith, k.on.turns) }; inner = k.inner }

module _ (w : ℕ) (s : Tables) (h : TablesSound s) (G : Ghost) (H : Holds (view s) G) (v : Locals) (us : List ℕ) (keys T : ℕ) where
  abbrev D : Decision → Type 0
  D = Decided w s G v.seq.0 us keys T

  abbrev Here : ℕ → ℕ → Type 0
  Here t more = AtNode (view s) G v.seq.0 v.p.0 us keys t more

  -- line 131
  module _ (root : Linked G 0) (version : Version (view s) v.seq.0) (k : Begun us keys T 1) where
    at-root : AtNode (view s) G v.seq.0 0 us keys (suc T) 0
    unfolding view leaf_of
    at-root = record {
      on = record {
        visited = [];
        leaves = [];
        walks = rw k.none_pending (starts (view s) G H root low version);
        keys = omega (arith, k.none_found);
        turns = rw k.none_pending (omega (arith, k.taken));
      };
      inner = rw h.root-row.kind refl;
    }
      where
        low : (fixed_at s.nodes (node 0)).phase ≤ v.seq.0
        low = rw h.root-row.phase (omega arith)

    pub bump_moves : D (bump131 s.totals v)
    unfolding bump131 apply bumped view found_left
    bump_moves = fork D (ltb s.totals.counter last_phase)
        (λ _. record { after = G; holds = counter_holds (view s) G (s.totals.counter + 1) H; rely = L; trees = t; knows = at_kept w (view s) (w_counter (view s) (s.totals.counter + 1)) G G H L t at-root })
        (λ _. (looks w s G H tt, omega (arith, k.taken)))
      where
        L : Rely w (view s) (w_counter (view s) (s.totals.counter + 1)) G G
        L = rely_counter w (view s) G (s.totals.counter + 1)

        t : TreeStep (view s) (w_counter (view s) (s.totals.counter + 1)) G G
        t = inl (record { fixed = λ n u. refl; kid = λ e n u. refl })

  -- lines 139 and 140
  pub word_moves : Here T 0 → D (word139 s.nodes v)
  unfolding word139 apply view found_left
  word_moves k = on_through w s G v.seq.0 us keys T _ v.p _ (as_parent_lem s v.p k.inner)
      (looks w s G H (paid (view s) G (suc T) 1 (omega arith) k, ((update_at s.nodes v.p).mark, seen_now (view s) G H v.p.0 (H.used v.p.0 k.on.walks.here))))

  pub state_moves : ScanKnows (view s) G v us keys T place.State140 → D (state140 s.records v)
  unfolding state140 apply in_progress view found_left help_left
  state_moves k = fork D (ltb (state_at s.records v.info) committed)
      (λ e. let open-state : state_at s.records v.info < committed = ltb-true _ _ e in
      looks w s G H (paid (view s) G (suc T + 12) 14 (omega arith) k.0, helps-word (view s) G H v.p.0 _ k.1.1 (omega arith)))
      (λ _. looks w s G H (paid (view s) G (suc T) 14 (omega arith) k.0))

  -- ---- HELP

  help_next_lem : (b : HelpStep) → Here (T + help_left b v.i) 14 → (sh : Shown (view s) G v.info.0) (m : Option HelpMove) → Moved w s h G H v.info.0 sh m → Falls (help_left b v.i) m → D (help_next Node v m)
  unfolding help_next back_to apply found_left
  help_next_lem b k sh None moved falls = moved
  help_next_lem b k sh (Some (help.Goes e j c)) moved falls = record {
    after = moved.after;
    holds = moved.holds;
    rely = moved.rely;
    trees = moved.trees;
    knows = (paid (view (apply e s)) moved.after (suc T + help_left c j) 14 (omega arith) (at_kept w (view s) (view (apply e s)) G moved.after H moved.rely moved.trees k), moved.knows);
  }
  help_next_lem b k sh (Some (help.Done done)) moved falls = looks w s G H (paid (view s) G (suc T) 14 (omega arith) k)

  most_listed : (r : ℕ) → Filled (view s) r → count_at s.records (record_no r) ≤ 4
  unfolding view filling_at
  most_listed r f = (H.records r f).lists.most_listed

  pub help_turns : (b : HelpStep) → ScanKnows (view s) G v us keys T (place.Help b Node) → D (help_next Node v (help_of s v.info v.i b))
  help_turns b k = help_next_lem b k.0 k.1.shown _ (help_moves w s h G H v.info.0 k.1.shown v.i b k.1.at) (help_falls s v.info v.i (most_listed v.info.0 k.1.shown.filled) b)
