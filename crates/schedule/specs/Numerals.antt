-- Several numbers, one behind another: what is spelled reads back, and what reads is spelled again as the same bytes.
use Rattle.std.specs.Prelude.{◌≡◌, List, [], ◌∷◌, ◌++◌, length, take, drop, Ok, Err, Some, None}
use Rattle.std.proofs.Math.Path.{refl, sym, subst}
use Rattle.std.proofs.Common.{ap, ◌∙◌, append_assoc, arith, length-append, length-drop, take-add}
use Prim.Native.Nat.{ℕ, zero, suc, ◌+◌, ◌^◌, ◌≤◌}
use Rattle.std.proofs.Math.ListN.{get_or}
use Rattle.std.proofs.Math.Seq.{drop-append_seam}
use Rattle.laws.specs.Parts.{Below, below_head, below_tail, below_none, below_cons}
use Rattle.groups.specs.Format.{bits, groups_of, most_groups, reading, read_of, Reading}
use Rattle.groups.specs.ByteByByte.{Inside, reads_inside}
use Rattle.groups.specs.RoundTrip.{written_reads, read_is_written}
use Rattle.schedule.specs.Format.{spelled_all}
use Rattle.schedule.specs.Reading.{Found, ahead, followed, numbers_at}

-- ---- so many numbers, each by its place

pub three : (ns : List ℕ) → length ns ≡ 3 → ns ≡ get_or ns 0 0 ∷ get_or ns 1 0 ∷ get_or ns 2 0 ∷ []
three (a ∷ b ∷ c ∷ []) e = refl
three [] e = absurd (omega arith)
three (a ∷ []) e = absurd (omega arith)
three (a ∷ b ∷ []) e = absurd (omega arith)
three (a ∷ b ∷ c ∷ d ∷ ns) e = absurd (omega arith)

pub four : (ns : List ℕ) → length ns ≡ 4 → ns ≡ get_or ns 0 0 ∷ get_or ns 1 0 ∷ get_or ns 2 0 ∷ get_or ns 3 0 ∷ []
four (a ∷ ns) e = ap (λ l. a ∷ l) (three ns (omega arith))
four [] e = absurd (omega arith)

-- ---- by the first number

pub number_first : (k : ℕ) (s : List ℕ) (n taken : ℕ) → read_of s ≡ Ok (n, taken) → numbers_at (suc k) s ≡ ahead n taken (numbers_at k (drop taken s))
unfolding numbers_at followed
number_first k s n taken e = rw e

pub fault_first : (k : ℕ) (s : List ℕ) {f : _} → read_of s ≡ Err f → numbers_at (suc k) s ≡ None
unfolding numbers_at followed
fault_first k s e = rw e

-- a number lies within the bytes and fits 32 bits
pub number_inside : (s : List ℕ) {n taken : ℕ} → read_of s ≡ Ok (n, taken) → Inside bits (most_groups bits) s n taken
unfolding reading
number_inside s e = reads_inside bits (most_groups bits) s e

pub number_there : (s : List ℕ) (n taken : ℕ) → read_of s ≡ Ok (n, taken) → taken ≤ length s
number_there s n taken e = (number_inside s e).there

pub number_few : (s : List ℕ) (n taken : ℕ) → read_of s ≡ Ok (n, taken) → taken ≤ 5
unfolding most_groups
number_few s n taken e = (number_inside s e).few

-- ---- number by number, what holds of all that read

-- a property of numbers and of where they end; a fault has it
unfoldable OnFound : (List ℕ → ℕ → Type 0) → Found → Type 0
OnFound P (Some (ns, end)) = P ns end
OnFound P None = Unit

module _ (P : ℕ → List ℕ → List ℕ → ℕ → Type 0)
    (none : (s : List ℕ) → P zero s [] 0)
    (more : (k : ℕ) (s : List ℕ) (n taken : ℕ) (ns : List ℕ) (end : ℕ) → read_of s ≡ Ok (n, taken) → P k (drop taken s) ns end → P (suc k) s (n ∷ ns) (taken + end)) where
  on_each : (k : ℕ) (s : List ℕ) → OnFound (P k s) (numbers_at k s)
  unfolding numbers_at OnFound followed ahead
  on_each zero s = none s
  on_each (suc k) s = by (read_of s) refl (λ taken. on_each k (drop taken s))
    where
      behind : (n taken : ℕ) → read_of s ≡ Ok (n, taken) → (x : Found) → OnFound (P k (drop taken s)) x → OnFound (P (suc k) s) (ahead n taken x)
      behind n taken at (Some (ns, end)) rest = more k s n taken ns end at rest
      behind n taken at None rest = tt

      by : (r : Reading) → read_of s ≡ r → ((taken : ℕ) → OnFound (P k (drop taken s)) (numbers_at k (drop taken s))) → OnFound (P (suc k) s) (followed r (λ taken. numbers_at k (drop taken s)))
      by (Ok (n, taken)) at rest = behind n taken at (numbers_at k (drop taken s)) (rest taken)
      by (Err f) at rest = tt

  pub each_found : (k : ℕ) (s ns : List ℕ) (end : ℕ) → numbers_at k s ≡ Some (ns, end) → P k s ns end
  unfolding OnFound
  each_found k s ns end e = subst (OnFound (P k s)) e (on_each k s)

-- so many numbers of 32 bits, each of a byte at least, and all of them there
pub record Counted (k : ℕ) (s ns : List ℕ) (end : ℕ) : Type 0 where
  pub many : length ns ≡ k
  pub fits : Below (2 ^ bits) ns
  pub some : k ≤ end
  pub there : end ≤ length s

pub numbers_counted : (k : ℕ) (s ns : List ℕ) (end : ℕ) → numbers_at k s ≡ Some (ns, end) → Counted k s ns end
numbers_counted = each_found Counted
    (λ s. record { many = refl; fits = below_none (2 ^ bits); some = omega arith; there = omega arith })
    (λ k s n taken ns end at rest. let one : Inside bits (most_groups bits) s n taken = number_inside s at in
    record { many = ap suc rest.many; fits = below_cons (2 ^ bits) n ns one.fits rest.fits; some = omega (arith, rest.some, one.some); there = omega (arith, rest.there, length-drop taken s, one.there) })

-- a fault is no numbers
pub no_numbers : {ns : List ℕ} {end : ℕ} → ◌≡◌ {A = Found} None (Some (ns, end)) → ⊥
no_numbers e = cc

-- the first of several numbers is the one that reads
pub first_is : (k : ℕ) (s ns : List ℕ) (kind taken end : ℕ) → 1 ≤ k → read_of s ≡ Ok (kind, taken) → numbers_at k s ≡ Some (ns, end) → get_or ns 0 0 ≡ kind
first_is zero s ns kind taken end some at e = absurd (omega arith)
first_is (suc k) s ns kind taken end some at e = same (numbers_at k (drop taken s)) (sym (number_first k s kind taken at) ∙ e)
  where
    same : (x : Found) → ahead kind taken x ≡ Some (ns, end) → get_or ns 0 0 ≡ kind
    same (Some (ms, d)) e = unfold ahead in (let h : ◌≡◌ {A = List ℕ × ℕ} (kind ∷ ms, taken + d) (ns, end) = cc in sym (ap (λ p. get_or p.0 0 0) h))
    same None e = unfold ahead in cc

-- ---- what is spelled reads back, whatever follows it

pub spelled_read : (ns rest : List ℕ) → Below (2 ^ bits) ns → numbers_at (length ns) (spelled_all ns ++ rest) ≡ Some (ns, length (spelled_all ns))
unfolding numbers_at spelled_all ahead
spelled_read [] rest b = refl
spelled_read (n ∷ ns) rest b =
    rw (append_assoc, number_first (length ns) (groups_of n ++ (spelled_all ns ++ rest)) n _ (written_reads bits n (spelled_all ns ++ rest) (below_head (2 ^ bits) n ns b)), drop-append_seam (groups_of n) (spelled_all ns ++ rest), spelled_read ns rest (below_tail (2 ^ bits) n ns b), length-append)

-- ---- what reads is spelled again as the same bytes

pub below-drop : (bound j : ℕ) (s : List ℕ) → Below bound s → Below bound (drop j s)
below-drop bound zero s b = b
below-drop bound (suc j) [] b = below_none bound
below-drop bound (suc j) (x ∷ s) b = below-drop bound j s (below_tail bound x s b)

pub read_spelled : (k : ℕ) (s ns : List ℕ) (end : ℕ) → numbers_at k s ≡ Some (ns, end) → Below 256 s → take end s ≡ spelled_all ns
unfolding spelled_all
read_spelled = each_found (λ k s ns end. Below 256 s → take end s ≡ spelled_all ns)
    (λ s b. refl)
    (λ k s n taken ns end at rest b. rw (take-add taken end s, read_is_written bits s b at, rest (below-drop 256 taken s b)))
