-- A command by its first three numbers: a fault among them is its fault, and only a scan has a number more.
use Rattle.std.specs.Prelude.{◌≡◌, refl, List, [], ◌∷◌, ℕ, ◌+◌, ◌≤◌, eqb, length, get_or, Ok, Err, Some, None}
use Rattle.std.proofs.Common.{sym, ap, ◌∙◌, arith, eq-eqb, ne_eqb}
use Rattle.laws.specs.Choice.{pick_true, pick_false, fork}
use Rattle.groups.specs.Format.{read_of, Reading}
use Rattle.groups.specs.declared.Fault.{Fault}
use Rattle.schedule.specs.Numbers.{scan}
use Rattle.schedule.specs.Reading.{numbers_at, command_of, built, numbers_in, named, command_at}
use Rattle.schedule.specs.Numerals.{three, fault_first, first_is, numbers_counted, number_few}
use Rattle.schedule.specs.OneMore.{and_then, one_more, one_more_lem}
use Rattle.reader.proofs.Behind.{part, part_is}

pub none_of_three : (s : List ℕ) → numbers_at 3 s ≡ None → command_at s ≡ None
unfolding command_at named built numbers_in one_more
none_of_three s e = by (read_of s)
  where
    by : (r : Reading) → named r s ≡ None
    by (Ok (kind, taken)) = fork (λ k. built (numbers_at k s) ≡ None) (eqb kind scan) (λ t. rw (one_more_lem 3 s, e)) (λ t. rw e)
    by (Err f) = refl

module _ (s ns : List ℕ) (end : ℕ) (found : numbers_at 3 s ≡ Some (ns, end)) where
  pub three_there : end ≤ length s
  three_there = (numbers_counted 3 s ns end found).there

  -- the three, by their places
  they_are : ns ≡ get_or ns 0 0 ∷ get_or ns 1 0 ∷ get_or ns 2 0 ∷ []
  they_are = three ns (numbers_counted 3 s ns end found).many

  by_kind : command_at s ≡ built (numbers_at (numbers_in (get_or ns 0 0)) s)
  unfolding command_at named
  by_kind = by (read_of s) refl
    where
      by : (r : Reading) → read_of s ≡ r → named r s ≡ built (numbers_at (numbers_in (get_or ns 0 0)) s)
      by (Ok (k, taken)) at = ap (λ n. built (numbers_at (numbers_in n) s)) (sym (first_is 3 s ns k taken end (omega arith) at found))
      by (Err f) at = cc (fault_first 2 s at)

  -- a number past the third counts as 0
  pub other_than_scan : (get_or ns 0 0 ≡ scan → ⊥) → command_at s ≡ command_of (get_or ns 0 0) (get_or ns 1 0) (get_or ns 2 0) 0 end
  unfolding numbers_in built
  other_than_scan ne =
      let none : get_or ns 3 0 ≡ 0 = ap (λ l. get_or l 3 0) they_are in
      by_kind ∙ ap (λ k. built (numbers_at k s)) (pick_false _ _ _ (ne_eqb (get_or ns 0 0) scan ne)) ∙ ap built found ∙ rw none

  scan_four : get_or ns 0 0 ≡ scan → command_at s ≡ built (and_then (get_or ns 0 0 ∷ get_or ns 1 0 ∷ get_or ns 2 0 ∷ []) end (read_of (part s end)))
  unfolding numbers_in one_more
  scan_four e =
      by_kind ∙ ap (λ k. built (numbers_at k s)) (pick_true _ _ _ (eq-eqb (get_or ns 0 0) scan e))
      ∙ ap built (one_more_lem 3 s ∙ ap (λ x. one_more x s) found)
      ∙ ap (λ l. built (and_then ns end (read_of l))) (sym (part_is s end))
      ∙ ap (λ l. built (and_then l end (read_of (part s end)))) they_are

  pub scan_fault : get_or ns 0 0 ≡ scan → (f : Fault) → read_of (part s end) ≡ Err f → command_at s ≡ None
  unfolding and_then built
  scan_fault e f at = scan_four e ∙ rw at

  pub scan_whole : get_or ns 0 0 ≡ scan → (b b_end : ℕ) → read_of (part s end) ≡ Ok (b, b_end) → command_at s ≡ command_of (get_or ns 0 0) (get_or ns 1 0) (get_or ns 2 0) b (end + b_end)
  unfolding and_then built
  scan_whole e b b_end at = scan_four e ∙ rw at

-- what `read_command` is proved by
pub ruleset by_three = (number_few, none_of_three, three_there, other_than_scan, scan_fault, scan_whole)
