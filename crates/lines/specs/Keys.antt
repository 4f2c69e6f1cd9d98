-- The keys of a found list, one by one, and in the line of their answer.
use Rattle.std.specs.Prelude.{◌≡◌, refl, List, ◌∷◌, ◌++◌, map, ℕ, zero, suc, ◌+◌, ◌-◌, ◌≤◌, ◌<◌, ℤ, pos, get_or}
use Rattle.std.proofs.Common.{arith, add-one, append-nil, append_assoc}
use Rattle.shapes.specs.declared.Answer.{Answer}
use Rattle.shapes.specs.declared.Answer.TheVariants.{Yes, No, Keys, NoRoom, NoPhase}
use Rattle.lines.specs.Text.{blank, decimal, signed, answer_word, spaced, line_of, keys_words, answered_text, keys_at, keys_text, listed_of}
use Rattle.lines.specs.Page.{Page, fill, fill-append, fill-word}

-- one key more stands last
pub one_more_key : (found : List ℤ) (from i : ℕ) → keys_text found from (suc i) ≡ keys_text found from i ++ (blank ∷ signed (get_or found (from + i) (pos 0)))
unfolding keys_at spaced
one_more_key found from zero =
    let here : from + 0 ≡ from = omega arith in
    rw (here, append-nil)
one_more_key found from (suc i) =
    let here : suc from + i ≡ from + suc i = omega arith in
    rw (one_more_key found (suc from) i, here, append_assoc)

pub fill_zero_keys : (found : List ℤ) (from : ℕ) (p : Page) → fill (keys_text found from 0) p ≡ p
unfolding keys_at spaced fill
fill_zero_keys found from p = refl

-- the next key, where i of n have been put
pub keys_next : (found : List ℤ) (from n i : ℕ) → i < n → keys_at found (from + i) (n - i) ≡ get_or found (from + i) (pos 0) ∷ keys_at found (from + (i + 1)) (n - (i + 1))
unfolding keys_at
keys_next found from n i h =
    let left : n - i ≡ suc (n - (i + 1)) = omega arith in
    let next : suc (from + i) ≡ from + (i + 1) = omega arith in
    rw (left, next)

pub fill_keys : (found : List ℤ) (from n i : ℕ) (p : Page) → i < n → fill (keys_text found (from + i) (n - i)) p ≡ fill (keys_text found (from + (i + 1)) (n - (i + 1))) (fill (blank ∷ signed (get_or found (from + i) (pos 0))) p)
fill_keys found from n i p h = rw (keys_next found from n i h) (fill-word _ _ p)

-- nothing is left of n keys from the n-th on
pub fill_no_keys : (found : List ℤ) (from n i : ℕ) (p : Page) → n ≤ i → fill (keys_text found (from + i) (n - i)) p ≡ p
unfolding keys_at spaced fill
fill_no_keys found from n i p h = let none : n - i ≡ 0 = omega arith in rw none

pub fill_one_more_key : (found : List ℤ) (from i : ℕ) (p : Page) → fill (keys_text found from (i + 1)) p ≡ fill (blank ∷ signed (get_or found (from + i) (pos 0))) (fill (keys_text found from i) p)
fill_one_more_key found from i p = rw (add-one, one_more_key found from i) (fill-append (keys_text found from i) _ p)

-- the words of an answer's keys are those keys, spelt; an answer without keys has none
pub keys_words_lem : (answer : Answer) (found : List ℤ) (from : ℕ) → keys_words answer (keys_at found from (listed_of answer)) ≡ map signed (keys_at found from (listed_of answer))
unfolding keys_words listed_of keys_at
keys_words_lem Yes found from = refl
keys_words_lem No found from = refl
keys_words_lem (Keys n) found from = refl
keys_words_lem NoRoom found from = refl
keys_words_lem NoPhase found from = refl

pub answered_line : (command worker turns : ℕ) (answer : Answer) (found : List ℤ) (from : ℕ) → answered_text command worker answer turns (keys_at found from (listed_of answer)) ≡ line_of (decimal command) (decimal worker ∷ answer_word answer ∷ decimal turns ∷ map signed (keys_at found from (listed_of answer)))
unfolding answered_text
answered_line command worker turns answer found from = rw (keys_words_lem answer found from)
