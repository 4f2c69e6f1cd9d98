-- How long a line can be: it fits its page.
use Rattle.std.specs.Prelude.{◌≡◌, refl, List, [], ◌∷◌, ◌++◌, ℕ, suc, ◌+◌, ◌*◌, ◌-◌, ◌≤◌, ◌<◌, ℤ, pos, negsuc, length, get_or}
use Rattle.std.proofs.Common.{arith, add-one, length-append, SFits}
use Rattle.std.specs.Int.{w32}
use Rattle.shapes.specs.Numbers.{refusal_number}
use Rattle.shapes.specs.declared.Answer.{Answer}
use Rattle.shapes.specs.declared.Answer.TheVariants.{Yes, No, Keys, NoRoom, NoPhase}
use Rattle.shapes.specs.declared.Refusal.{Refusal}
use Rattle.shapes.specs.declared.Refusal.TheVariants as refusal
use Rattle.lines.specs.Text.{line_feed, blank, decimal, signed, answer_word, spaced, line_of, answered_text, refused_text, end_text, bad_text, most_keys, keys_at, keys_text, listed_of}
use Rattle.lines.specs.Digits.{short}
use Rattle.lines.specs.Keys.{keys_next, one_more_key, answered_line}

-- how many bytes a page has
abbrev pub size : ℕ
size = 16384

-- ---- words

word-short : (answer : Answer) → length (answer_word answer) ≤ 8
unfolding answer_word
word-short Yes = omega arith
word-short No = omega arith
word-short (Keys n) = omega arith
word-short NoRoom = omega arith
word-short NoPhase = omega arith

ten_digits : (n : ℕ) → n < 4294967296 → length (decimal n) ≤ 10
ten_digits n h = short 9 n (omega arith)

twenty_digits : (n : ℕ) → n < 18446744073709551616 → length (decimal n) ≤ 20
twenty_digits n h = short 19 n (omega arith)

refusal_small : (r : Refusal) → refusal_number r < 8
unfolding refusal_number
refusal_small refusal.Table = omega arith
refusal_small refusal.Size = omega arith
refusal_small refusal.Worker = omega arith
refusal_small refusal.Busy = omega arith
refusal_small refusal.Idle = omega arith
refusal_small refusal.Crooked = omega arith

-- ---- keys

-- a blank, a minus and ten digits
abbrev pub key_room : ℕ
key_room = 12

key-short : (z : ℤ) → SFits w32 z → length (signed z) ≤ 11
unfolding signed
key-short (pos n) f = omega (arith, ten_digits n (omega (arith, f.sfits)))
key-short (negsuc m) f = omega (arith, ten_digits (suc m) (omega (arith, f.sfits)))

-- the next key's share, where i of n have been put
pub keys_length : (found : List ℤ) (from n i : ℕ) → i < n → SFits w32 (get_or found (from + i) (pos 0)) → length (keys_text found (from + i) (n - i)) ≤ key_room + length (keys_text found (from + (i + 1)) (n - (i + 1)))
unfolding spaced
keys_length found from n i h f =
    let key = get_or found (from + i) (pos 0) in
    rw (keys_next found from n i h, length-append (signed key) (keys_text found (from + (i + 1)) (n - (i + 1)))) (omega (arith, key-short key f))

-- the last key's share
pub one_more_length : (found : List ℤ) (from i : ℕ) → SFits w32 (get_or found (from + i) (pos 0)) → length (keys_text found from (i + 1)) ≤ length (keys_text found from i) + key_room
one_more_length found from i f =
    let key = get_or found (from + i) (pos 0) in
    rw (add-one, one_more_key found from i, length-append (keys_text found from i) (blank ∷ signed key)) (omega (arith, key-short key f))

pub zero_keys_length : (found : List ℤ) (from : ℕ) → length (keys_text found from 0) ≡ 0
unfolding keys_at spaced
zero_keys_length found from = refl

-- nothing is left of n keys from the n-th on
pub no_keys_length : (found : List ℤ) (from n i : ℕ) → n ≤ i → length (keys_text found (from + i) (n - i)) ≡ 0
unfolding keys_at spaced
no_keys_length found from n i h = let none : n - i ≡ 0 = omega arith in rw none

few_listed : (answer : Answer) → listed_of answer ≤ most_keys
unfolding listed_of
few_listed Yes = omega arith
few_listed No = omega arith
few_listed (Keys n) = omega arith
few_listed NoRoom = omega arith
few_listed NoPhase = omega arith

-- ---- lines

line_length : (word : List ℕ) (words : List (List ℕ)) → length (line_of word words) ≡ length word + (length (spaced words) + 1)
unfolding line_of
line_length word words = rw (length-append word (spaced words ++ (line_feed ∷ [])), length-append (spaced words) (line_feed ∷ []))

spaced-length : (word : List ℕ) (words : List (List ℕ)) → length (spaced (word ∷ words)) ≡ suc (length word + length (spaced words))
unfolding spaced
spaced-length word words = rw (length-append word (spaced words))

none_length : length (spaced []) ≡ 0
unfolding spaced
none_length = refl

module _ (command worker : ℕ) (command-fits : command < 4294967296) (worker-fits : worker < 4294967296) where
  pub answered-fits : (answer : Answer) (turns : ℕ) (found : List ℤ) (from : ℕ) → turns < 18446744073709551616 → length (keys_text found from (listed_of answer)) ≤ listed_of answer * key_room → length (answered_text command worker answer turns (keys_at found from (listed_of answer))) ≤ size
  answered-fits answer turns found from turns_fit few = simp (answered_line, line_length, spaced-length) (omega (arith, ten_digits command command-fits, ten_digits worker worker-fits, word-short answer, twenty_digits turns turns_fit, few_listed answer))

  pub refused-fits : (r : Refusal) → length (refused_text command worker r) ≤ size
  unfolding refused_text
  refused-fits r = simp (line_length, spaced-length, none_length) (omega (arith, ten_digits command command-fits, ten_digits worker worker-fits, ten_digits (refusal_number r) (omega (arith, refusal_small r))))

pub end_fits : (a b c d : ℕ) → a < 4294967296 → b < 4294967296 → c < 4294967296 → d < 4294967296 → length (end_text a b c d) ≤ size
unfolding end_text
end_fits a b c d ha hb hc hd = simp (line_length, spaced-length, none_length) (omega (arith, ten_digits a ha, ten_digits b hb, ten_digits c hc, ten_digits d hd))

pub bad_fits : (command : ℕ) → command < 4294967296 → length (bad_text command) ≤ size
unfolding bad_text
bad_fits command h = simp (line_length, spaced-length, none_length) (omega (arith, ten_digits command h))
