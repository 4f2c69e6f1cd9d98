-- A worker's pending nodes as a list, the one pushed last first: what a turn sees of it, and what it makes of it.
use Prim.Native.Nat.{ℕ, zero, suc, ◌+◌, ◌*◌, ◌-◌, ◌≤◌, ◌<◌}
use Rattle.std.specs.Prelude.{◌≡◌, ◌≢◌, length, get_or}
use Rattle.std.proofs.Math.Path.{refl}
use Rattle.std.proofs.Common.{sym, ap, ap₂, ◌∙◌, get_or-set_same}
use mathlib.Core.List.{List, [], ◌∷◌}
use native.Mathlib.Omega.{arith}
use Rattle.std.proofs.Math.Seq.{get_or-set_other}
use Rattle.shapes.specs.declared.Totals.{Totals}
use Rattle.shapes.specs.declared.Worker.{Worker}
use Rattle.shapes.specs.declared.PendingChange.{PendingChange}
use Rattle.shapes.specs.declared.PendingChange.TheVariants as pending
use Rattle.tables.specs.Names.{node}
use Rattle.tables.specs.World.{World, totals_of, spot, pending_at}
use Rattle.steps.specs.Scan.{Lists}
use Rattle.steps.specs.Turn.{pending_left, pushed, lists_of}
use Rattle.kept.specs.Good.{PendingFits}
use Rattle.kept.specs.Spots.{spot-within, spot_other}

-- the first k values of f, the last first
unfoldable pub stack : (ℕ → ℕ) → ℕ → List ℕ
stack f zero = []
stack f (suc k) = f k ∷ stack f k

pub stack_same : (f g : ℕ → ℕ) (k : ℕ) → ((i : ℕ) → i < k → f i ≡ g i) → stack f k ≡ stack g k
unfolding stack
stack_same f g zero e = refl
stack_same f g (suc k) e = ap₂ ◌∷◌ (e k (omega arith)) (stack_same f g k (λ i l. e i (omega arith)))

pub stack-length : (f : ℕ → ℕ) (k : ℕ) → length (stack f k) ≡ k
unfolding stack
stack-length f zero = refl
stack-length f (suc k) = ap suc (stack-length f k)

-- worker w's first k places in a list of pending nodes
unfoldable pub waiting : Totals → List ℕ → ℕ → ℕ → List ℕ
waiting t ps w k = stack (λ i. get_or ps (spot t w i) 0) k

-- ---- what a turn sees of it: how many there are, and the one pushed last

abbrev pub Tied : Lists → List ℕ → Type 0
Tied ls [] = ls.pending ≡ 0
Tied ls (u ∷ us) = (ls.pending ≡ suc (length us)) × (ls.top ≡ node u)

pub tied_length : (ls : Lists) (us : List ℕ) → Tied ls us → ls.pending ≡ length us
tied_length ls [] t = t
tied_length ls (u ∷ us) t = t.0

pub lists_tied : (s : World) (w : ℕ) (k : Worker) → Tied (lists_of s w k) (waiting (totals_of s) s.pending w k.pending)
unfolding lists_of waiting stack pending_at
lists_tied s w k = by k.pending refl
  where
    by : (n : ℕ) → k.pending ≡ n → Tied (lists_of s w k) (waiting (totals_of s) s.pending w n)
    by zero e = e
    by (suc n) e = (e ∙ ap suc (sym (stack-length _ n)), ap (pending_at s w) (let one : k.pending - 1 ≡ n = omega arith in one))

-- ---- what a turn makes of it

abbrev pub waits_next : List ℕ → PendingChange → List ℕ
waits_next us pending.Keep = us
waits_next us (pending.Push x) = x.0 ∷ us
waits_next [] pending.Pop = []
waits_next (u ∷ us) pending.Pop = us

module _ (t : Totals) (ps : List ℕ) (w : ℕ) (in_p : w < t.p) (lent : t.p * t.n ≤ length ps) where
  spot_apart : (i j : ℕ) → i ≢ j → spot t w i ≢ spot t w j
  unfolding spot
  spot_apart i j ne e = ne (omega arith)

  pub waiting_next : (k : ℕ) (c : PendingChange) → PendingFits t k c → waiting t (pushed ps (spot t w k) c) w (pending_left k c) ≡ waits_next (waiting t ps w k) c
  unfolding waiting pushed pending_left stack
  waiting_next k pending.Keep fits = refl
  waiting_next k (pending.Push x) fits =
      let one : k + 1 ≡ suc k = omega arith in
      rw one (ap₂ ◌∷◌ (get_or-set_same ps (spot t w k) x.0 0 (spot-within t w k _ in_p fits.0 lent)) (stack_same _ _ k (λ i l. get_or-set_other ps (spot t w k) (spot t w i) x.0 0 (spot_apart i k (λ e. omega arith)))))
  waiting_next zero pending.Pop fits = refl
  waiting_next (suc k) pending.Pop fits = let less : suc k - 1 ≡ k = omega arith in rw less refl

  -- the other workers' lists stay
  pub waiting_other : (u k j : ℕ) (c : PendingChange) → u ≢ w → j ≤ t.n → PendingFits t k c → waiting t (pushed ps (spot t w k) c) u j ≡ waiting t ps u j
  unfolding waiting pushed
  waiting_other u k j pending.Keep ne most fits = refl
  waiting_other u k j (pending.Push x) ne most fits = stack_same _ _ j (λ i l. get_or-set_other ps (spot t w k) (spot t u i) x.0 0 (spot_other t w u k i fits.0 (omega arith) ne))
  waiting_other u k j pending.Pop ne most fits = refl
