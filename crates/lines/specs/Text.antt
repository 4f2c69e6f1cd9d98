-- How a line of the program is spelt, in ASCII (01, 'The schedule': "prints one line per answer or refusal").
use Rattle.std.specs.Prelude.{List, [], ◌∷◌, ◌++◌, map, ℕ, zero, suc, ◌+◌, ◌/◌, ◌%◌, min, ltb, ℤ, pos, negsuc, get_or}
use Rattle.laws.specs.Choice.{pick}
use Rattle.shapes.specs.Numbers.{refusal_number, most_n}
use Rattle.shapes.specs.declared.Answer.{Answer}
use Rattle.shapes.specs.declared.Answer.TheVariants.{Yes, No, Keys, NoRoom, NoPhase}
use Rattle.shapes.specs.declared.Refusal.{Refusal}
use Rattle.lines.specs.declared.Line.{Line}
use Rattle.lines.specs.declared.Line.TheVariants.{Quiet, Answered, Refused, End, Bad}

abbrev pub line_feed : ℕ
line_feed = 10

abbrev pub blank : ℕ
blank = 32

abbrev pub minus : ℕ
minus = 45

-- ---- numbers

-- a number below ten
abbrev pub digit : ℕ → ℕ
digit d = 48 + d

-- the last k digits of n, or as many as it has, highest first
unfoldable pub digits_up_to : ℕ → ℕ → List ℕ
digits_up_to zero n = []
digits_up_to (suc k) n = let above = digits_up_to k (n / 10) in pick (ltb n 10) (digit n ∷ []) (above ++ (digit (n % 10) ∷ []))

-- all its digits, and no 0 before them: n has no more than n + 1
unfoldable pub decimal : ℕ → List ℕ
decimal n = digits_up_to (suc n) n

-- `negsuc m` is −m − 1
unfoldable pub signed : ℤ → List ℕ
signed (pos n) = decimal n
signed (negsuc m) = minus ∷ decimal (suc m)

-- ---- words

-- "yes, no, keys, no-room, no-phase"
unfoldable pub answer_word : Answer → List ℕ
answer_word Yes = 121 ∷ 101 ∷ 115 ∷ []
answer_word No = 110 ∷ 111 ∷ []
answer_word (Keys n) = 107 ∷ 101 ∷ 121 ∷ 115 ∷ []
answer_word NoRoom = 110 ∷ 111 ∷ 45 ∷ 114 ∷ 111 ∷ 111 ∷ 109 ∷ []
answer_word NoPhase = 110 ∷ 111 ∷ 45 ∷ 112 ∷ 104 ∷ 97 ∷ 115 ∷ 101 ∷ []

-- "or refused", "`end`", "`bad`"
abbrev pub refused_word : List ℕ
refused_word = 114 ∷ 101 ∷ 102 ∷ 117 ∷ 115 ∷ 101 ∷ 100 ∷ []

abbrev pub end_word : List ℕ
end_word = 101 ∷ 110 ∷ 100 ∷ []

abbrev pub bad_word : List ℕ
bad_word = 98 ∷ 97 ∷ 100 ∷ []

-- ---- lines

-- a blank before each word
unfoldable pub spaced : List (List ℕ) → List ℕ
spaced [] = []
spaced (word ∷ words) = blank ∷ word ++ spaced words

-- a line of words
unfoldable pub line_of : List ℕ → List (List ℕ) → List ℕ
line_of word words = word ++ (spaced words ++ (line_feed ∷ []))

-- "for keys, the keys"
unfoldable pub keys_words : Answer → List ℤ → List (List ℕ)
keys_words Yes keys = []
keys_words No keys = []
keys_words (Keys n) keys = map signed keys
keys_words NoRoom keys = []
keys_words NoPhase keys = []

-- which command (the first is 1), whose, what it came to in a word, and how many turns the operation took; a scan's keys stand last
unfoldable pub answered_text : ℕ → ℕ → Answer → ℕ → List ℤ → List ℕ
answered_text command worker answer turns keys = line_of (decimal command) (decimal worker ∷ answer_word answer ∷ decimal turns ∷ keys_words answer keys)

-- a refusal has its number where an answer has its turns
unfoldable pub refused_text : ℕ → ℕ → Refusal → List ℕ
refused_text command worker refusal = line_of (decimal command) (decimal worker ∷ refused_word ∷ decimal (refusal_number refusal) ∷ [])

-- the last line: how many commands were read, then what is used of nodes and of records, then Counter
unfoldable pub end_text : ℕ → ℕ → ℕ → ℕ → List ℕ
end_text commands nodes records counter = line_of end_word (decimal commands ∷ decimal nodes ∷ decimal records ∷ decimal counter ∷ [])

-- what does not read is told by the number of its command, behind `bad`
unfoldable pub bad_text : ℕ → List ℕ
bad_text command = line_of bad_word (decimal command ∷ [])

-- a line, with the keys that it lists
unfoldable pub line_text : Line → List ℤ → List ℕ
line_text Quiet keys = []
line_text (Answered command worker answer turns) keys = answered_text command worker answer turns keys
line_text (Refused command worker refusal) keys = refused_text command worker refusal
line_text (End commands nodes records counter) keys = end_text commands nodes records counter
line_text (Bad command) keys = bad_text command

-- ---- keys from a found list

-- n keys from a place on; past the end of the list they are 0
unfoldable pub keys_at : List ℤ → ℕ → ℕ → List ℤ
keys_at found from zero = []
keys_at found from (suc n) = get_or found from (pos 0) ∷ keys_at found (suc from) n

-- the same, spelt, a blank before each
abbrev pub keys_text : List ℤ → ℕ → ℕ → List ℕ
keys_text found from n = spaced (map signed (keys_at found from n))

-- the most keys that a line lists: as many as there can be nodes (01, 'Sizes'), so that it fits its page
abbrev pub most_keys : ℕ
most_keys = most_n

-- how many keys an answer lists
unfoldable pub listed_of : Answer → ℕ
listed_of Yes = 0
listed_of No = 0
listed_of (Keys n) = min n most_keys
listed_of NoRoom = 0
listed_of NoPhase = 0

-- the keys that a line lists
unfoldable pub keys_of : Line → List ℤ → ℕ → List ℤ
keys_of Quiet found from = []
keys_of (Answered command worker answer turns) found from = keys_at found from (listed_of answer)
keys_of (Refused command worker refusal) found from = []
keys_of (End commands nodes records counter) found from = []
keys_of (Bad command) found from = []

-- a line, with its keys from a found list
abbrev pub text_of : Line → List ℤ → ℕ → List ℕ
text_of line found from = line_text line (keys_of line found from)
