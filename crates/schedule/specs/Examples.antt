-- 01's schedule and the faults that stand beside it, computed from the definitions; both lengths at the limit.
use Rattle.std.specs.Prelude.{◌≡◌, refl, List, [], ◌∷◌, ℕ, pos, negsuc, length, Ok, Err, Some, None}
use Rattle.std.proofs.Common.{arith}
use Rattle.laws.specs.Choice.{pick}
use Rattle.laws.specs.Tests.{all}
use Rattle.groups.specs.Format.{spelling, most_groups, spelled, held, joined, read_up_to, reading, code_of, signed_of}
use Rattle.tables.specs.Fresh.{between, sizes_ok}
use Rattle.schedule.specs.Answers.{opening}
use Rattle.schedule.specs.Numbers.{refusal_number, writing_number, opening_number, command_number}
use Rattle.schedule.specs.Format.{spelled_all, numbers_of, command_bytes, opening_bytes, accepted, Schedule, all_bytes, schedule_bytes}
use Rattle.schedule.specs.Reading.{ahead, followed, numbers_at, sized, opening_at, command_of, built, numbers_in, named, command_at, before, handed_on, commands_in, with_sizes, opened, schedule_at}
use Rattle.schedule.specs.Writing.{left, entered, write_opening, write_command}
use Rattle.schedule.specs.Openings.{not_too_long, too_long}
use Rattle.schedule.specs.declared.Command.TheVariants.{Insert, Delete, Find, Scan, Turns}
use Rattle.schedule.specs.declared.Refusal.TheVariants.{File, Size}

-- "10 04 02 01 00 0A 05 00 12 04 01 00 12 05 01 08"
abbrev pub evening : List ℕ
evening = 0x10 ∷ 0x04 ∷ 0x02 ∷ 0x01 ∷ 0x00 ∷ 0x0A ∷ 0x05 ∷ 0x00 ∷ 0x12 ∷ 0x04 ∷ 0x01 ∷ 0x00 ∷ 0x12 ∷ 0x05 ∷ 0x01 ∷ 0x08 ∷ []

-- sixteen nodes, four records, two workers: insert 5, 18 turns, scan 0 to 9, 8 turns
abbrev pub evening_schedule : Schedule
evening_schedule = record { n = 16; m = 4; p = 2; commands = Insert 0 (pos 5) ∷ Turns 0 18 ∷ Scan 1 (pos 0) (pos 9) ∷ Turns 1 8 ∷ [] }

pub record Evening : Type 0 where
  pub read : schedule_at evening ≡ Some evening_schedule
  pub written : schedule_bytes evening_schedule ≡ evening

-- each command, with what follows it left alone
pub record Each : Type 0 where
  pub insert-minus-one : command_at (0x01 ∷ 0x00 ∷ 0x01 ∷ 0xFF ∷ []) ≡ Some (Insert 0 (negsuc 0), 3)
  pub delete_lowest : command_at (0x02 ∷ 0x07 ∷ 0xFF ∷ 0xFF ∷ 0xFF ∷ 0xFF ∷ 0x0F ∷ []) ≡ Some (Delete 7 (negsuc 2147483647), 7)
  pub find_highest : command_at (0x03 ∷ 0x00 ∷ 0xFE ∷ 0xFF ∷ 0xFF ∷ 0xFF ∷ 0x0F ∷ []) ≡ Some (Find 0 (pos 2147483647), 7)
  pub scan_a_before_b : command_at (0x04 ∷ 0x01 ∷ 0x00 ∷ 0x12 ∷ []) ≡ Some (Scan 1 (pos 0) (pos 9), 4)
  pub turns_128 : command_at (0x05 ∷ 0x01 ∷ 0x80 ∷ 0x01 ∷ []) ≡ Some (Turns 1 128, 4)

-- each way in which a command or an opening fails to read
pub record Faults : Type 0 where
  pub command_0 : command_at (0x00 ∷ 0x00 ∷ 0x02 ∷ []) ≡ None
  pub command_6 : command_at (0x06 ∷ 0x00 ∷ 0x02 ∷ []) ≡ None
  pub turns_0 : command_at (0x05 ∷ 0x01 ∷ 0x00 ∷ []) ≡ None
  pub nothing : command_at [] ≡ None
  pub no_worker : command_at (0x01 ∷ []) ≡ None
  pub key-cut-short : command_at (0x01 ∷ 0x00 ∷ 0x80 ∷ []) ≡ None
  pub scan_without_b : command_at (0x04 ∷ 0x01 ∷ 0x00 ∷ []) ≡ None
  pub not_shortest : command_at (0x01 ∷ 0x80 ∷ 0x00 ∷ 0x00 ∷ []) ≡ None
  pub too_long : command_at (0x01 ∷ 0x00 ∷ 0xFF ∷ 0xFF ∷ 0xFF ∷ 0xFF ∷ 0x8F ∷ 0x01 ∷ []) ≡ None
  pub too_large : command_at (0x01 ∷ 0x00 ∷ 0xFF ∷ 0xFF ∷ 0xFF ∷ 0xFF ∷ 0x10 ∷ []) ≡ None
  pub seven_nodes : opening_at (0x07 ∷ 0x04 ∷ 0x02 ∷ []) ≡ None
  pub nodes_1025 : opening_at (0x81 ∷ 0x08 ∷ 0x04 ∷ 0x02 ∷ []) ≡ None
  pub nodes_1024 : opening_at (0x80 ∷ 0x08 ∷ 0x04 ∷ 0x02 ∷ []) ≡ Some (opening 1024 4 2, 4)
  pub no_workers : opening_at (0x10 ∷ 0x04 ∷ 0x00 ∷ []) ≡ None
  pub two_sizes : opening_at (0x10 ∷ 0x04 ∷ []) ≡ None
  pub late_fault : schedule_at (0x10 ∷ 0x04 ∷ 0x02 ∷ 0x05 ∷ 0x00 ∷ 0x01 ∷ 0x06 ∷ []) ≡ None
  pub command_8 : command_number None ≡ 8
  pub opening_8 : opening_number None ≡ 8

-- the longest schedule, and one byte more
pub record Longest : Type 0 where
  pub bytes_65536 : (s : List ℕ) → length s ≡ 65536 → opening_at s ≡ sized (numbers_at 3 s)
  pub bytes_65537 : (s : List ℕ) → length s ≡ 65537 → opening_at s ≡ None

-- "a writer gives 8 before 2": none of these buffers has a byte, but the last
pub record Refusals : Type 0 where
  pub turns_0 : write_command (Turns 0 0) [] 0 ≡ left (Err File) []
  pub seven_nodes : write_opening 7 4 2 [] 0 ≡ left (Err File) []
  pub past_65536 : write_command (Find 0 (pos 0)) [] 65534 ≡ left (Err File) []
  pub at_65536 : write_command (Find 0 (pos 0)) [] 65533 ≡ left (Err Size) []
  pub short_by_one : write_command (Find 0 (pos 0)) (9 ∷ 9 ∷ 9 ∷ []) 1 ≡ left (Err Size) (9 ∷ 9 ∷ 9 ∷ [])
  pub just_fits : write_command (Find 2 (pos 1)) (9 ∷ 9 ∷ 9 ∷ 9 ∷ []) 1 ≡ left (Ok 4) (9 ∷ 3 ∷ 2 ∷ 2 ∷ [])
  pub number_8 : writing_number (Err File) ≡ 8
  pub number_2 : writing_number (Err Size) ≡ 2

pub record Examples : Type 0 where
  pub evening : Evening
  pub each : Each
  pub faults : Faults
  pub longest : Longest
  pub refusals : Refusals

pub examples : Examples
unfolding pick all spelling most_groups spelled held joined read_up_to reading code_of signed_of between sizes_ok refusal_number writing_number opening_number command_number spelled_all numbers_of command_bytes opening_bytes accepted all_bytes schedule_bytes ahead followed numbers_at sized opening_at command_of built numbers_in named command_at before handed_on commands_in with_sizes opened schedule_at entered write_opening write_command
examples = record {
  evening = record { read = refl; written = refl };
  each = record { insert-minus-one = refl; delete_lowest = refl; find_highest = refl; scan_a_before_b = refl; turns_128 = refl };
  faults = record { command_0 = refl; command_6 = refl; turns_0 = refl; nothing = refl; no_worker = refl; key-cut-short = refl; scan_without_b = refl; not_shortest = refl; too_long = refl; too_large = refl; seven_nodes = refl; nodes_1025 = refl; nodes_1024 = refl; no_workers = refl; two_sizes = refl; late_fault = refl; command_8 = refl; opening_8 = refl };
  longest = record { bytes_65536 = λ s e. not_too_long s (omega arith); bytes_65537 = λ s e. too_long s (omega arith) };
  refusals = record { turns_0 = refl; seven_nodes = refl; past_65536 = refl; at_65536 = refl; short_by_one = refl; just_fits = refl; number_8 = refl; number_2 = refl };
}
