-- Numbers read from the front of what the one before them left: the part of a slice from a place on is what `drop` leaves.
use Rattle.std.specs.Prelude.{◌≡◌, List, [], ◌∷◌, ℕ, suc, ◌+◌, ◌-◌, length, take, drop, Ok, Err, Some, None}
use Rattle.std.proofs.Common.{sym, ap, ◌∙◌, arith, length-drop, take_all}
use Rattle.groups.specs.Format.{read_of}
use Rattle.groups.specs.declared.Fault.{Fault}
use Rattle.schedule.specs.Reading.{ahead, numbers_at}
use Rattle.schedule.specs.Numerals.{number_first, fault_first, number_there, number_few}

abbrev pub part : List ℕ → ℕ → List ℕ
part s at = take (length s - at) (drop at s)

pub part_is : (s : List ℕ) (at : ℕ) → part s at ≡ drop at s
part_is s at = take_all (length s - at) (drop at s) (omega (arith, length-drop at s))

pub next : (k : ℕ) (s : List ℕ) (n taken : ℕ) → read_of s ≡ Ok (n, taken) → numbers_at (suc k) s ≡ ahead n taken (numbers_at k (part s taken))
next k s n taken e = number_first k s n taken e ∙ ap (λ l. ahead n taken (numbers_at k l)) (sym (part_is s taken))

pub first_fault : (s : List ℕ) (f : Fault) → read_of s ≡ Err f → numbers_at 3 s ≡ None
first_fault s f e = fault_first 2 s e

module _ (s : List ℕ) (a a_end : ℕ) (first : read_of s ≡ Ok (a, a_end)) where
  pub second_fault : (f : Fault) → read_of (part s a_end) ≡ Err f → numbers_at 3 s ≡ None
  unfolding ahead
  second_fault f e = next 2 s a a_end first ∙ ap (ahead a a_end) (fault_first 1 (part s a_end) e)

  module _ (b b_end : ℕ) (second : read_of (part s a_end) ≡ Ok (b, b_end)) where
    pub third_fault : (f : Fault) → read_of (part (part s a_end) b_end) ≡ Err f → numbers_at 3 s ≡ None
    unfolding ahead
    third_fault f e = next 2 s a a_end first ∙ ap (ahead a a_end) (next 1 (part s a_end) b b_end second ∙ ap (ahead b b_end) (fault_first 0 (part (part s a_end) b_end) e))

    pub all_three : (c c_end : ℕ) → read_of (part (part s a_end) b_end) ≡ Ok (c, c_end) → numbers_at 3 s ≡ Some (a ∷ b ∷ c ∷ [], a_end + (b_end + c_end))
    unfolding ahead numbers_at
    all_three c c_end e =
        let end : c_end + 0 ≡ c_end = omega arith in
        next 2 s a a_end first ∙ ap (ahead a a_end) (next 1 (part s a_end) b b_end second ∙ ap (ahead b b_end) (next 0 (part (part s a_end) b_end) c c_end e ∙ ap (λ (end : ℕ). Some (c ∷ [], end)) end))

-- what `read_three` is proved by
pub ruleset one_by_one = (number_there, number_few, first_fault, second_fault, third_fault, all_three)
