-- One number more, read behind the others.
use Rattle.std.specs.Prelude.{◌≡◌, refl, List, [], ◌∷◌, ◌++◌, ℕ, zero, suc, ◌+◌, drop, Ok, Err, Some, None}
use Rattle.std.proofs.Common.{ap, add_assoc, arith, drop-drop}
use Rattle.groups.specs.Format.{read_of, Reading}
use Rattle.schedule.specs.Reading.{Found, ahead, followed, numbers_at}

unfoldable pub and_then : List ℕ → ℕ → Reading → Found
and_then ns end (Ok (n, taken)) = Some (ns ++ (n ∷ []), end + taken)
and_then ns end (Err f) = None

unfoldable pub one_more : Found → List ℕ → Found
one_more (Some (ns, end)) s = and_then ns end (read_of (drop end s))
one_more None s = None

ahead-and_then : (m taken : ℕ) (ns : List ℕ) (end : ℕ) (r : Reading) → ahead m taken (and_then ns end r) ≡ and_then (m ∷ ns) (taken + end) r
unfolding ahead and_then
ahead-and_then m taken ns end (Ok (n, more)) = rw (add_assoc taken end more)
ahead-and_then m taken ns end (Err f) = refl

ahead_more : (n taken : ℕ) (x : Found) (s : List ℕ) → ahead n taken (one_more x (drop taken s)) ≡ one_more (ahead n taken x) s
unfolding one_more ahead
ahead_more n taken (Some (ns, end)) s = rw (drop-drop end taken s) (ahead-and_then n taken ns end (read_of (drop (taken + end) s)))
ahead_more n taken None s = refl

pub one_more_lem : (k : ℕ) (s : List ℕ) → numbers_at (suc k) s ≡ one_more (numbers_at k s) s
unfolding numbers_at one_more followed ahead and_then
one_more_lem zero s = first (read_of s)
  where
    first : (r : Reading) → followed r (λ taken. Some ([], 0)) ≡ and_then [] 0 r
    first (Ok (n, taken)) = let e : taken + 0 ≡ 0 + taken = omega arith in ap (λ (end : ℕ). Some (n ∷ [], end)) e
    first (Err f) = refl
one_more_lem (suc k) s = behind (λ taken. one_more_lem k (drop taken s)) (read_of s)
  where
    behind : ((taken : ℕ) → numbers_at (suc k) (drop taken s) ≡ one_more (numbers_at k (drop taken s)) (drop taken s)) → (r : Reading) → followed r (λ taken. numbers_at (suc k) (drop taken s)) ≡ one_more (followed r (λ taken. numbers_at k (drop taken s))) s
    behind less (Ok (n, taken)) = rw (less taken) (ahead_more n taken (numbers_at k (drop taken s)) s)
    behind less (Err f) = refl
