-- What the table's bytes stand for.
use Rattle.std.specs.Prelude.{List, ◌++◌, ℕ, ◌+◌, ◌*◌, ltb, ℤ, pos, ◌-ℤ◌, get_or, take, drop}
use Rattle.laws.specs.Choice.{pick}
use Rattle.groups.specs.Format.{Left, left, write_of}

-- four bytes, lowest first
abbrev pub word_of : ℕ → ℕ → ℕ → ℕ → ℕ
word_of lowest second third highest = lowest + 256 * (second + 256 * (third + 256 * highest))

-- the four at a place
abbrev pub word_at : List ℕ → ℕ → ℕ
word_at row at = word_of (get_or row at 0) (get_or row (at + 1) 0) (get_or row (at + 2) 0) (get_or row (at + 3) 0)

-- a word of 32 bits whose top bit is set stands for itself less 2^32
unfoldable pub twos_complement : ℕ → ℤ
twos_complement word = pick (ltb word 2147483648) (pos word) (pos word -ℤ pos 4294967296)

-- a number written as if the buffer had only so much room: what stands behind that stays
unfoldable pub write_in_front : ℕ → List ℕ → ℕ → ℕ → Left
write_in_front n buffer at room = let front = write_of n (take room buffer) at in left front.answer (front.buffer ++ drop room buffer)
