-- What reads as a command is a proper one, and is written again as the same bytes.
use Rattle.std.specs.Prelude.{◌≡◌, List, [], ◌∷◌, true, ℕ, ◌≤◌, eqb, length, get_or, take, Ok, Err, Some, None}
use Rattle.std.proofs.Math.Path.{refl}
use Rattle.std.proofs.Common.{sym, ap, subst, ◌∙◌, arith}
use borrow.Author.Tests.{eqb-true, eqb-false, lt-ltb}
use Rattle.laws.specs.Choice.{pick, fork}
use Rattle.laws.specs.Parts.{Below}
use Rattle.groups.specs.Format.{read_of, Reading}
use Rattle.groups.specs.Codes.{code_signed}
use Rattle.schedule.specs.Answers.{CommandReading}
use Rattle.schedule.specs.Numbers.{insert, delete, find, scan, turns}
use Rattle.schedule.specs.Format.{numbers_of, command_bytes, accepted}
use Rattle.schedule.specs.Reading.{Found, numbers_at, numbers_in, command_of, built, named, command_at}
use Rattle.schedule.specs.Standing.{Stands}
use Rattle.schedule.specs.Numerals.{three, four, first_is, Counted, numbers_counted, read_spelled}
use Rattle.schedule.specs.declared.Command.{Command}
use Rattle.schedule.specs.declared.Command.TheVariants.{Turns}

numbers_some : (kind : ℕ) → 1 ≤ numbers_in kind
unfolding numbers_in
numbers_some kind = fork (λ k. 1 ≤ k) (eqb kind scan) (λ t. omega arith) (λ t. omega arith)

-- a property of a command and of where it ends; a fault has it
unfoldable OnCommand : (Command → ℕ → Type 0) → CommandReading → Type 0
OnCommand P (Some (c, end)) = P c end
OnCommand P None = Unit

module _ (ns : List ℕ) (end : ℕ) (many : length ns ≡ numbers_in (get_or ns 0 0)) where
  abbrev Made : Command → ℕ → Type 0
  Made c e = (numbers_of c ≡ ns) × (accepted c ≡ true) × (end ≡ e)

  of_three : (kind : ℕ) → eqb (get_or ns 0 0) kind ≡ true → numbers_in kind ≡ 3 → kind ∷ get_or ns 1 0 ∷ get_or ns 2 0 ∷ [] ≡ ns
  of_three kind t size = let h : get_or ns 0 0 ≡ kind = eqb-true (get_or ns 0 0) kind t in rw (← h) (sym (three ns (many ∙ ap numbers_in h ∙ size)))

  of_four : (kind : ℕ) → eqb (get_or ns 0 0) kind ≡ true → numbers_in kind ≡ 4 → kind ∷ get_or ns 1 0 ∷ get_or ns 2 0 ∷ get_or ns 3 0 ∷ [] ≡ ns
  of_four kind t size = let h : get_or ns 0 0 ≡ kind = eqb-true (get_or ns 0 0) kind t in rw (← h) (sym (four ns (many ∙ ap numbers_in h ∙ size)))

  made : OnCommand Made (built (Some (ns, end)))
  unfolding OnCommand numbers_of accepted numbers_in built command_of pick
  made =
      fork (OnCommand Made) (eqb (get_or ns 0 0) insert) (λ t. (rw (code_signed (get_or ns 2 0)) (of_three insert t refl), refl, refl)) (λ t.
      fork (OnCommand Made) (eqb (get_or ns 0 0) delete) (λ t. (rw (code_signed (get_or ns 2 0)) (of_three delete t refl), refl, refl)) (λ t.
      fork (OnCommand Made) (eqb (get_or ns 0 0) find) (λ t. (rw (code_signed (get_or ns 2 0)) (of_three find t refl), refl, refl)) (λ t.
      fork (OnCommand Made) (eqb (get_or ns 0 0) scan) (λ t. (rw (code_signed (get_or ns 2 0), code_signed (get_or ns 3 0)) (of_four scan t refl), refl, refl)) (λ t.
      fork (OnCommand Made) (eqb (get_or ns 0 0) turns)
      (λ t. fork (OnCommand Made) (eqb (get_or ns 2 0) 0) (λ z. tt) (λ z. let it : Made (Turns (get_or ns 1 0) (get_or ns 2 0)) end = (of_three turns t refl, lt-ltb 0 (get_or ns 2 0) (omega (arith, eqb-false (get_or ns 2 0) 0 z)), refl) in it))
      (λ t. tt)))))

pub command_stands : (s : List ℕ) (c : Command) (end : ℕ) → command_at s ≡ Some (c, end) → Stands s c end
unfolding command_at named built OnCommand
command_stands s c end e = by (read_of s) refl e
  where
    of : (kind taken : ℕ) → read_of s ≡ Ok (kind, taken) → (x : Found) → numbers_at (numbers_in kind) s ≡ x → built x ≡ Some (c, end) → Stands s c end
    of kind taken at None ex e = cc
    of kind taken at (Some (ns, d)) ex e =
        let t : Counted (numbers_in kind) s ns d = numbers_counted (numbers_in kind) s ns d ex in
        let first : get_or ns 0 0 ≡ kind = first_is (numbers_in kind) s ns kind taken d (numbers_some kind) at ex in
        let many : length ns ≡ numbers_in (get_or ns 0 0) = t.many ∙ ap numbers_in (sym first) in
        let m : Made ns d many c end = subst (OnCommand (Made ns d many)) e (made ns d many) in
        record {
          proper = record { fits = rw m.0 t.fits; some = m.1 };
          some = omega (arith, numbers_some kind, t.some, m.2);
          there = omega (arith, t.there, m.2);
          count = numbers_in kind;
          numbers = rw (m.0, ← m.2) ex;
        }

    by : (r : Reading) → read_of s ≡ r → named r s ≡ Some (c, end) → Stands s c end
    by (Ok (kind, taken)) at e = of kind taken at (numbers_at (numbers_in kind) s) refl e
    by (Err f) at e = cc

-- and its bytes are the first of those that were read
pub command_rewritten : (s : List ℕ) → Below 256 s → (c : Command) (end : ℕ) → command_at s ≡ Some (c, end) → take end s ≡ command_bytes c
unfolding command_bytes
command_rewritten s b c end e = let it : Stands s c end = command_stands s c end e in read_spelled it.count s (numbers_of c) end it.numbers b
