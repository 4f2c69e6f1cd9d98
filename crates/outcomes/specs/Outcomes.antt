-- 01, 'How tight the contracts are': a contract allows one outcome for each input. Every public function of the library's face in
-- one list. No contract is written again here: `Reads.Post` is the function's own, as the check reads it off the code.
use Rattle.laws.specs.Outcomes.{OneOutcome, OneAnswer}
use Rattle.tally.specs.declared.Played.{Played}
use Rattle.tally.specs.Playing.{Told, told}
use Rattle.outcomes.specs.Lent.{with, Exit, exit_named}
use Rattle.groups.proofs as groups
use Rattle.unpack.proofs as unpack
use Rattle.pack.proofs as pack
use Rattle.laps.proofs as laps
use Rattle.fresh.proofs as fresh
use Rattle.checking.proofs as checking
use Rattle.machine.proofs as machine
use Rattle.lister.proofs as lister
use Rattle.reader.proofs as reader
use Rattle.writer.proofs as writer
use Rattle.spelling.proofs as spelling
use Rattle.telling.proofs as telling
use Rattle.tally.proofs as tally
use Rattle.playing.proofs as playing

pub record Listed : Type 0 where
  -- groups
  pub length : OneAnswer groups.length.Reads.Post
  pub read : OneAnswer unpack.read.Reads.Post
  pub write : OneOutcome pack.write.Reads.Post (λ r x. with r x.1.0)
  pub code : OneAnswer groups.code.Reads.Post
  pub signed : OneAnswer groups.signed.Reads.Post
  pub read_signed : OneAnswer unpack.read_signed.Reads.Post
  pub write_signed : OneOutcome pack.write_signed.Reads.Post (λ r x. with r x.1.0)
  -- laps
  pub key_of_lap : OneAnswer laps.key_of_lap.Reads.Post
  pub lap_of_key : OneAnswer laps.lap_of_key.Reads.Post
  pub difference_of_pad : OneAnswer laps.difference_of_pad.Reads.Post
  -- tables
  pub fresh : OneOutcome fresh.fresh.Reads.Post (λ r x. exit_named r x.1.1.0)
  pub is_sound : OneAnswer checking.is_sound.Reads.Post
  -- the machine
  pub start_insert : OneAnswer machine.start_insert.Reads.Post
  pub start_delete : OneAnswer machine.start_delete.Reads.Post
  pub start_find : OneAnswer machine.start_find.Reads.Post
  pub start_scan : OneAnswer machine.start_scan.Reads.Post
  pub turn : OneOutcome machine.turn.Reads.Post (λ r x. exit_named r x.1.1.0)
  pub run : OneOutcome machine.run.Reads.Post (λ r x. exit_named r x.1.1.1.0)
  pub list : OneOutcome lister.list.Reads.Post (λ r x. with r x.1.1.1.0)
  -- schedules
  pub read_opening : OneAnswer reader.read_opening.Reads.Post
  pub read_command : OneAnswer reader.read_command.Reads.Post
  pub write_opening : OneOutcome writer.write_opening.Reads.Post (λ r x. with r x.1.0)
  pub write_command : OneOutcome writer.write_command.Reads.Post (λ r x. with r x.1.0)
  -- lines
  pub spell : OneOutcome spelling.spell.Reads.Post (λ r x. with r x.1.1.1.0)
  -- commands played
  pub play : OneOutcome playing.play.Reads.Post (λ r x. exit_named r x.1.1.1.1.0)
  pub begun : OneAnswer telling.begun.Reads.Post
  pub ran : OneAnswer telling.ran.Reads.Post
  pub no_board : OneAnswer tally.no_board.Reads.Post
  pub end_line : OneAnswer tally.end_line.Reads.Post
  pub keys_place : OneAnswer tally.keys_place.Reads.Post

-- what a command's answer and the lists come to, and back
abbrev pub all_told : Exit Played → Told
all_told o = told o.0 o.1 o.2 o.3 o.4

abbrev pub played_back : Told → Played
played_back d = record { board = d.evening.world.board; turns = d.evening.turns; line = d.line }
