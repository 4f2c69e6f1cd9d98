-- A scan's turn on sound tables, place by place: never crooked, and it knows what its next place needs.
use Rattle.std.specs.Prelude.{ℕ, ◌+◌, ◌-◌, ◌≤◌, ◌<◌, ◌≡◌, refl, Bool, false, ltb}
use Rattle.std.proofs.Common.{inl, arith}
use mathlib.Core.List.{List, [], ◌∷◌}
use Rattle.std.proofs.Math.Bool.{true}
use Rattle.std.proofs.Math.ListN.{length}
use borrow.Author.Tests.{ltb-false}
use Rattle.laws.specs.Choice.{fork}
use Rattle.shapes.specs.declared.Key.{Key}
use Rattle.shapes.specs.declared.Locals.{Locals}
use Rattle.shapes.specs.declared.Place.{Place}
use Rattle.shapes.specs.declared.PendingChange.TheVariants as pending
use Rattle.shapes.specs.Outcomes.{Decision}
use Rattle.tables.specs.Names.{node}
use Rattle.tables.specs.World.{Tables}
use Rattle.sound.specs.Meaning.{TablesSound}
use Rattle.steps.specs.Apply.{apply}
use Rattle.steps.specs.Scan.{Lists, Range, reads, child141, left144}
use Rattle.steps.specs.Decide.{scan}
use Rattle.steps.specs.Turn.{found_left}
use Rattle.trees.specs.Members.{Mem}
use Rattle.trees.specs.Scanning.{between, has_child, has_pending}
use Rattle.views.specs.View.{view}
use Rattle.protocol.specs.Ghost.{Ghost}
use Rattle.protocol.specs.Invariant.{Holds}
use Rattle.protocol.specs.Trees.{Linked, Version}
use Rattle.protocol.specs.Walks.{pushes, visits, pops}
use Rattle.protocol.specs.Waiting.{Tied, tied_length}
use Rattle.protocol.specs.ScanPlaces.{OnWalk, AtNode, ScanKnows, by_place}
use Rattle.protocol.specs.ScanCount.{pending_room}
use Rattle.protocol.specs.ScanChild.{Decided, on_through, looks, as_parent_lem, read}
use Rattle.protocol.specs.ScanTurns.{bump_moves, word_moves, state_moves, help_turns}

module _ (w : ℕ) (s : Tables) (h : TablesSound s) (G : Ghost) (H : Holds (view s) G) (a b : Key) (v : Locals) (ls : Lists) (T : ℕ) where
  abbrev range : Range
  range = record { low = a; high = b; seq = v.seq }

  -- lines 141 to 143
  module _ (us : List ℕ) (long : ls.pending ≡ length us) (k : AtNode (view s) G v.seq.0 v.p.0 us ls.found T 14) where
    abbrev D : Decision → Type 0
    D = Decided w s G v.seq.0 us ls.found T

    one_child : (e : Bool) → D (reads s.totals s.nodes range ls.found pending.Keep ls.pending v.p e)
    one_child e =
        let c = has_child k.on.walks.scanning k.inner e in
        read w s h G H range us ls.found T pending.Keep ls.pending long v.p e c.0 k.on.walks.here k.inner c.1
        (record { visited = v.p.0 ∷ k.on.visited; leaves = k.on.leaves; walks = visits (view s) G H true k.on.walks e k.inner c.1; keys = k.on.keys; turns = omega (arith, k.on.turns) })

    both_children : D (reads s.totals s.nodes range ls.found (pending.Push v.p) (ls.pending + 1) v.p false)
    both_children =
        let c = has_child k.on.walks.scanning k.inner false in
        read w s h G H range us ls.found T (pending.Push v.p) (ls.pending + 1) (omega (arith, long)) v.p false c.0 k.on.walks.here k.inner c.1
        (record { visited = v.p.0 ∷ k.on.visited; leaves = k.on.leaves; walks = pushes (view s) G H true k.on.walks k.inner c.1; keys = k.on.keys; turns = omega (arith, k.on.turns) })

    room : ls.pending < s.totals.n
    unfolding view
    room = let few : length us < s.totals.nodes = pending_room (view s) G H k in omega (arith, long, h.used.most_nodes)

    child_moves : D (child141 s.totals s.nodes range ls v)
    unfolding child141
    child_moves = on_through w s G v.seq.0 us ls.found T _ v.p _ (as_parent_lem s v.p k.inner)
        (fork D _ (λ _. one_child false) (λ _. fork D _ (λ _. one_child true)
        (λ _. fork D (ltb ls.pending s.totals.n) (λ _. both_children) (λ e. let full : s.totals.n ≤ ls.pending = ltb-false _ _ e in absurd (omega (arith, room))))))

  -- line 144: what the turn costs was kept back
  left_moves : (us : List ℕ) → Tied ls us → OnWalk (view s) G v.seq.0 between us ls.found T 0 → 0 < length us → Decided w s G v.seq.0 us ls.found T (left144 s.totals s.nodes range ls)
  unfolding left144
  left_moves [] t k some = absurd (omega arith)
  left_moves (u ∷ us) t k some =
      let B = k.walks.scanning.been in
      let m : Mem u k.visited = B.pending u (inl refl) in
      let c = has_pending k.walks.scanning in
      rw t.1 (on_through w s G v.seq.0 (u ∷ us) ls.found T _ (node u) _ (as_parent_lem s (node u) (B.inner u m))
      (read w s h G H range (u ∷ us) ls.found T pending.Pop (ls.pending - 1) (omega (arith, t.0)) (node u) true c.0 (k.walks.visited u m) (B.inner u m) c.1
      (record { visited = k.visited; leaves = k.leaves; walks = pops (view s) G H true k.walks (B.inner u m) c.1; keys = k.keys; turns = omega (arith, k.turns) })))

  -- every place; that the phase has a version and the Root is linked is known of every history
  pub scan_moves : (root : Linked G 0) (version : Version (view s) v.seq.0) (us : List ℕ) → Tied ls us → (q : Place) → ScanKnows (view s) G v us ls.found T q → Decided w s G v.seq.0 us ls.found T (scan s ls a b v q)
  unfolding scan apply found_left
  scan_moves root version us t = by_place (view s) G v us ls.found T (λ q. Decided w s G v.seq.0 us ls.found T (scan s ls a b v q))
      (help_turns w s h G H v us ls.found T)
      (λ k. looks w s G H (record { none_pending = k.none_pending; none_found = k.none_found; taken = omega (arith, k.taken) }))
      (bump_moves w s h G H v us ls.found T root version)
      (word_moves w s h G H v us ls.found T)
      (state_moves w s h G H v us ls.found T)
      (child_moves us (tied_length ls us t))
      (λ k. left_moves us t k.0 k.1)
