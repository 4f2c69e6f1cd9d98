-- Opens every definition of the crate, of schedules and of lines, for what is computed.
use Rattle.std.specs.Prelude.{ℕ}
use Rattle.shapes.specs.Numbers.{refusal_number}
use Rattle.laws.specs.Choice.{pick}
use Rattle.groups.specs.Format.{spelling, most_groups, spelled, held, joined, read_up_to, reading, signed_of}
use Rattle.schedule.specs.Reading.{ahead, followed, numbers_at, sized, opening_at, command_of, built, numbers_in, named, command_at}
use Rattle.lines.specs.Text.{digits_up_to, decimal, signed, answer_word, spaced, line_of as lineOfWords, keys_words, answered_text, refused_text, end_text, bad_text, line_text, keys_at, listed_of, keys_of}
use Rattle.tally.specs.Playing.{counted, started_counts, line_of, begun, ran, play_by}
use Rattle.tally.specs.Whole.{lent, fresh_evening, keys_place, spoken, end_line, going, play_from, begins, printed_by}

unfoldable pub tally_opened : ℕ
unfolding pick refusal_number spelling most_groups spelled held joined read_up_to reading signed_of ahead followed numbers_at sized opening_at command_of built numbers_in named command_at digits_up_to decimal signed answer_word spaced lineOfWords keys_words answered_text refused_text end_text bad_text line_text keys_at listed_of keys_of counted started_counts line_of begun ran play_by lent fresh_evening keys_place spoken end_line going play_from begins printed_by
tally_opened = 0
