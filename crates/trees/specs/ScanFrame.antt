-- All that is ahead of a scan lies in what its nodes lead to; a store that agrees there leaves the scan under way.
use Rattle.std.specs.Prelude.{◌≡◌, refl, List, Bool, false, ℕ}
use Rattle.std.proofs.Common.{inl, inr}
use Rattle.trees.specs.Members.{All}
use Rattle.trees.specs.Shape.{Shape, both, In}
use Rattle.trees.specs.Version.{Store}
use Rattle.trees.specs.Frame.{Closed, Agree, walk_in, tree_in, child_frame, tree_frame}
use Rattle.trees.specs.Been.{been_changed}
use Rattle.trees.specs.Scanning.{Stand, at, between, Here, Pending, end, waits, Scanning}

abbrev pub StandIn : (ℕ → Type 0) → Stand → Type 0
StandIn U (at cur) = U cur
StandIn U between = Unit {0}

module _ {S : Store} {U : ℕ → Type 0} (closed : Closed S U) where
  here_within : (i : ℕ) (stand : Stand) (s : Shape) → StandIn U stand → Here S i stand s → (n : ℕ) → In n s → U n
  here_within i (at cur) s u r n j = tree_in closed u r.1 n j
  here_within i between s u r n j = absurd (rw r at j)

  pending_within : {i : ℕ} {a : Bool} {us : List ℕ} {t : Shape} → All U us → All (λ n. S.leaf n ≡ false) us → Pending S i a us t → (n : ℕ) → In n t → U n
  pending_within known inner end n = λ j. absurd j
  pending_within {a = a} known inner (waits {u = u} w y P) n = elim [
    | inl e ↦ known n (inl e)
    | inr (inl j) ↦ tree_in closed (walk_in closed (closed.kid a u (known u (inl refl)) (inner u (inl refl))) w) y n j
    | inr (inr j) ↦ pending_within (λ m k. known m (inr k)) (λ m k. inner m (inr k)) P n j
  ]

  -- all that is ahead
  pub scan-within : {i : ℕ} {a : Bool} {stand : Stand} {us vs ls : List ℕ} (G : Scanning S i a stand us vs ls) → StandIn U stand → All U vs → (n : ℕ) → In n (both G.here G.there) → U n
  scan-within {i} {stand = stand} G u known n = elim [
    | inl j ↦ here_within i stand G.here u G.reads n j
    | inr j ↦ pending_within (λ m k. known m (G.been.pending m k)) (λ m k. G.been.inner m (G.been.pending m k)) G.rest n j
  ]

  module _ {T : Store} (agree : Agree S T U) where
    here_frame : (i : ℕ) (stand : Stand) (s : Shape) → StandIn U stand → Here S i stand s → Here T i stand s
    here_frame i (at cur) s u r = (rw (agree.phase cur u) r.0, tree_frame closed agree u r.1)
    here_frame i between s u r = r

    pending_frame : {i : ℕ} {a : Bool} {us : List ℕ} {t : Shape} → All U us → All (λ n. S.leaf n ≡ false) us → Pending S i a us t → Pending T i a us t
    pending_frame known inner end = end
    pending_frame {i} {a} known inner (waits {u = u} {c = c} w y P) =
        let known-u : U u = known u (inl refl) in
        let inner-u : S.leaf u ≡ false = inner u (inl refl) in
        waits (child_frame closed agree i a u c known-u inner-u w) (tree_frame closed agree (walk_in closed (closed.kid a u known-u inner-u) w) y) (pending_frame (λ m k. known m (inr k)) (λ m k. inner m (inr k)) P)

    pub scan_frame : {i : ℕ} {a : Bool} {stand : Stand} {us vs ls : List ℕ} → Scanning S i a stand us vs ls → StandIn U stand → All U vs → All U ls → Scanning T i a stand us vs ls
    scan_frame {i} {stand = stand} G u known known-leaves = record {
      here = G.here;
      there = G.there;
      reads = here_frame i stand G.here u G.reads;
      rest = pending_frame (λ m k. known m (G.been.pending m k)) (λ m k. G.been.inner m (G.been.pending m k)) G.rest;
      once = G.once;
      been = been_changed (λ n. ⊥) (λ n m e. e) (λ n m e. e) (λ n j. inl j) (λ n m. (agree.leaf n (known n m), agree.phase n (known n m))) (λ n m. agree.leaf n (known-leaves n m)) G.been;
    }
