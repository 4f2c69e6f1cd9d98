-- An opening that is written reads back as itself, whatever follows it; one that reads is written again as the same bytes.
use Rattle.std.specs.Prelude.{◌≡◌, refl, List, [], ◌∷◌, ◌++◌, true, ℕ, ◌^◌, ◌≤◌, ◌<◌, leb, length, get_or, take, Some, None}
use Rattle.std.proofs.Common.{ap, subst, ◌∙◌, arith, leb-true, le-leb}
use Rattle.std.proofs.lemmas.Bool.{lt-leb}
use Rattle.laws.specs.Choice.{pick_true, pick_false, fork}
use Rattle.laws.specs.Parts.{Below, below_none, below_cons}
use Rattle.groups.specs.Format.{bits}
use Rattle.tables.specs.Fresh.{sizes_ok}
use Rattle.sound.specs.Meaning.{SizesSound}
use Rattle.sound.specs.Agree.{says_sizes}
use Rattle.schedule.specs.Answers.{opening, OpeningReading}
use Rattle.schedule.specs.Numbers.{most_bytes}
use Rattle.schedule.specs.Format.{opening_bytes}
use Rattle.schedule.specs.Reading.{Found, numbers_at, sized, opening_at}
use Rattle.schedule.specs.Numerals.{three, Counted, numbers_counted, spelled_read, read_spelled}

-- "at most 65,536 bytes; a longer one is a fault in its opening"
pub not_too_long : (s : List ℕ) → length s ≤ most_bytes → opening_at s ≡ sized (numbers_at 3 s)
unfolding opening_at
not_too_long s few = pick_true _ _ _ (le-leb (length s) most_bytes few)

pub too_long : (s : List ℕ) → most_bytes < length s → opening_at s ≡ None
unfolding opening_at
too_long s many = pick_false _ _ _ (lt-leb (length s) most_bytes many)

-- sizes in range are numbers of 32 bits
sizes_fit : (n m p : ℕ) → sizes_ok n m p ≡ true → Below (2 ^ bits) (n ∷ m ∷ p ∷ [])
sizes_fit n m p e =
    let h : SizesSound n m p = (says_sizes n m p).out e in
    below_cons (2 ^ bits) n (m ∷ p ∷ []) (omega (arith, h.n_at_most))
    (below_cons (2 ^ bits) m (p ∷ []) (omega (arith, h.m_at_most))
    (below_cons (2 ^ bits) p [] (omega (arith, h.p_at_most)) (below_none (2 ^ bits))))

pub opening_reads : (n m p : ℕ) (rest : List ℕ) → sizes_ok n m p ≡ true → length (opening_bytes n m p ++ rest) ≤ most_bytes → opening_at (opening_bytes n m p ++ rest) ≡ Some (opening n m p, length (opening_bytes n m p))
unfolding opening_at opening_bytes sized
opening_reads n m p rest ok few =
    not_too_long (opening_bytes n m p ++ rest) few
    ∙ ap sized (spelled_read (n ∷ m ∷ p ∷ []) rest (sizes_fit n m p ok))
    ∙ pick_true _ _ _ ok

-- what reads as an opening: sizes in range, within a file that is not too long
pub record Opens (s : List ℕ) (n m p end : ℕ) : Type 0 where
  pub sizes : sizes_ok n m p ≡ true
  pub few : length s ≤ most_bytes
  pub there : end ≤ length s
  pub numbers : numbers_at 3 s ≡ Some (n ∷ m ∷ p ∷ [], end)

-- a property of an opening; a fault has it
unfoldable OnOpening : (ℕ → ℕ → ℕ → ℕ → Type 0) → OpeningReading → Type 0
OnOpening P (Some (o, end)) = P o.n o.m o.p end
OnOpening P None = Unit

pub opening_opens : (s : List ℕ) (n m p end : ℕ) → opening_at s ≡ Some (opening n m p, end) → Opens s n m p end
unfolding opening_at sized OnOpening
opening_opens s n m p end e =
    subst (OnOpening (Opens s)) e (fork (OnOpening (Opens s)) (leb (length s) most_bytes) (λ t. by (leb-true (length s) most_bytes t) (numbers_at 3 s) refl) (λ t. tt))
  where
    by : length s ≤ most_bytes → (x : Found) → numbers_at 3 s ≡ x → OnOpening (Opens s) (sized x)
    by few None at = tt
    by few (Some (ns, d)) at =
        let c : Counted 3 s ns d = numbers_counted 3 s ns d at in
        fork (OnOpening (Opens s)) (sizes_ok (get_or ns 0 0) (get_or ns 1 0) (get_or ns 2 0))
        (λ ok. record { sizes = ok; few = few; there = c.there; numbers = at ∙ ap (λ l. Some (l, d)) (three ns c.many) })
        (λ ok. tt)

-- and its bytes are the first of those that were read
pub opening_rewritten : (s : List ℕ) → Below 256 s → (n m p end : ℕ) → opening_at s ≡ Some (opening n m p, end) → take end s ≡ opening_bytes n m p
unfolding opening_bytes
opening_rewritten s b n m p end e = read_spelled 3 s (n ∷ m ∷ p ∷ []) end (opening_opens s n m p end e).numbers b
