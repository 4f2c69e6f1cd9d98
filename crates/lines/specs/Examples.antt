-- 01's three lines and the ends of every number, computed from the definitions.
use Rattle.std.specs.Prelude.{◌≡◌, refl, [], ◌∷◌, pos, negsuc}
use Rattle.laws.specs.Choice.{pick}
use Rattle.shapes.specs.Numbers.{refusal_number}
use Rattle.shapes.specs.declared.Answer.TheVariants.{Yes, No, Keys, NoRoom, NoPhase}
use Rattle.shapes.specs.declared.Refusal.TheVariants as refusal
use Rattle.lines.specs.Text.{digits_up_to, decimal, signed, answer_word, spaced, line_of, keys_words, answered_text, refused_text, end_text, bad_text, line_text, keys_at, listed_of, keys_of, text_of}
use Rattle.lines.specs.declared.Line.TheVariants.{Quiet, Answered, Refused, End, Bad}

-- "2 0 yes 18", "4 1 keys 8 5", "end 4 6 2 1"
pub record Printed : Type 0 where
  pub yes : line_text (Answered 2 0 Yes 18) [] ≡ 50 ∷ 32 ∷ 48 ∷ 32 ∷ 121 ∷ 101 ∷ 115 ∷ 32 ∷ 49 ∷ 56 ∷ 10 ∷ []
  pub key : line_text (Answered 4 1 (Keys 1) 8) (pos 5 ∷ []) ≡ 52 ∷ 32 ∷ 49 ∷ 32 ∷ 107 ∷ 101 ∷ 121 ∷ 115 ∷ 32 ∷ 56 ∷ 32 ∷ 53 ∷ 10 ∷ []
  pub end : line_text (End 4 6 2 1) [] ≡ 101 ∷ 110 ∷ 100 ∷ 32 ∷ 52 ∷ 32 ∷ 54 ∷ 32 ∷ 50 ∷ 32 ∷ 49 ∷ 10 ∷ []

-- the other words
pub record Words : Type 0 where
  pub no : line_text (Answered 10 0 No 6) [] ≡ 49 ∷ 48 ∷ 32 ∷ 48 ∷ 32 ∷ 110 ∷ 111 ∷ 32 ∷ 54 ∷ 10 ∷ []
  pub no_keys : line_text (Answered 1 0 (Keys 0) 5) [] ≡ 49 ∷ 32 ∷ 48 ∷ 32 ∷ 107 ∷ 101 ∷ 121 ∷ 115 ∷ 32 ∷ 53 ∷ 10 ∷ []
  pub no_room : line_text (Answered 4 7 NoRoom 11) [] ≡ 52 ∷ 32 ∷ 55 ∷ 32 ∷ 110 ∷ 111 ∷ 45 ∷ 114 ∷ 111 ∷ 111 ∷ 109 ∷ 32 ∷ 49 ∷ 49 ∷ 10 ∷ []
  pub no_phase : line_text (Answered 4 7 NoPhase 2) [] ≡ 52 ∷ 32 ∷ 55 ∷ 32 ∷ 110 ∷ 111 ∷ 45 ∷ 112 ∷ 104 ∷ 97 ∷ 115 ∷ 101 ∷ 32 ∷ 50 ∷ 10 ∷ []
  pub idle : line_text (Refused 2 0 refusal.Idle) [] ≡ 50 ∷ 32 ∷ 48 ∷ 32 ∷ 114 ∷ 101 ∷ 102 ∷ 117 ∷ 115 ∷ 101 ∷ 100 ∷ 32 ∷ 53 ∷ 10 ∷ []
  pub crooked : line_text (Refused 2 0 refusal.Crooked) [] ≡ 50 ∷ 32 ∷ 48 ∷ 32 ∷ 114 ∷ 101 ∷ 102 ∷ 117 ∷ 115 ∷ 101 ∷ 100 ∷ 32 ∷ 55 ∷ 10 ∷ []
  pub bad : line_text (Bad 0) [] ≡ 98 ∷ 97 ∷ 100 ∷ 32 ∷ 48 ∷ 10 ∷ []
  pub quiet : line_text Quiet [] ≡ []

-- numbers at their ends, and where a digit is added
pub record Numbers : Type 0 where
  pub nine : decimal 9 ≡ 57 ∷ []
  pub ten : decimal 10 ≡ 49 ∷ 48 ∷ []
  pub zeros : decimal 1000 ≡ 49 ∷ 48 ∷ 48 ∷ 48 ∷ []
  pub most_turns : decimal 18446744073709551615 ≡ 49 ∷ 56 ∷ 52 ∷ 52 ∷ 54 ∷ 55 ∷ 52 ∷ 52 ∷ 48 ∷ 55 ∷ 51 ∷ 55 ∷ 48 ∷ 57 ∷ 53 ∷ 53 ∷ 49 ∷ 54 ∷ 49 ∷ 53 ∷ []
  pub minus_one : signed (negsuc 0) ≡ 45 ∷ 49 ∷ []
  pub lowest : signed (negsuc 2147483647) ≡ 45 ∷ 50 ∷ 49 ∷ 52 ∷ 55 ∷ 52 ∷ 56 ∷ 51 ∷ 54 ∷ 52 ∷ 56 ∷ []
  pub highest : signed (pos 2147483647) ≡ 50 ∷ 49 ∷ 52 ∷ 55 ∷ 52 ∷ 56 ∷ 51 ∷ 54 ∷ 52 ∷ 55 ∷ []

-- keys from a found list: in its order from the place on, 0 past its end, none for another answer
pub record Found : Type 0 where
  pub from_one : text_of (Answered 1 0 (Keys 2) 9) (pos 7 ∷ pos 5 ∷ negsuc 2 ∷ []) 1 ≡ 49 ∷ 32 ∷ 48 ∷ 32 ∷ 107 ∷ 101 ∷ 121 ∷ 115 ∷ 32 ∷ 57 ∷ 32 ∷ 53 ∷ 32 ∷ 45 ∷ 51 ∷ 10 ∷ []
  pub past_end : keys_at (pos 7 ∷ []) 0 2 ≡ pos 7 ∷ pos 0 ∷ []
  pub not_listed : text_of (Answered 1 0 No 9) (pos 7 ∷ []) 0 ≡ 49 ∷ 32 ∷ 48 ∷ 32 ∷ 110 ∷ 111 ∷ 32 ∷ 57 ∷ 10 ∷ []
  pub at_most : listed_of (Keys 4294967295) ≡ 1024

pub record Examples : Type 0 where
  pub printed : Printed
  pub words : Words
  pub numbers : Numbers
  pub found : Found

pub examples : Examples
unfolding pick digits_up_to decimal signed answer_word refusal_number spaced line_of keys_words answered_text refused_text end_text bad_text line_text keys_at listed_of keys_of
examples = record {
  printed = record { yes = refl; key = refl; end = refl };
  words = record { no = refl; no_keys = refl; no_room = refl; no_phase = refl; idle = refl; crooked = refl; bad = refl; quiet = refl };
  numbers = record { nine = refl; ten = refl; zeros = refl; most_turns = refl; minus_one = refl; lowest = refl; highest = refl };
  found = record { from_one = refl; past_end = refl; not_listed = refl; at_most = refl };
}
