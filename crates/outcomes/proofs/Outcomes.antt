-- Every public function of the library's face has one outcome.
use Rattle.std.specs.Prelude.{refl}
use Rattle.laws.specs.Outcomes.{one_outcome, answer, one_answer}
use Rattle.groups.specs.Format.{left}
use Rattle.laps.specs.Laps.{told}
use Rattle.laps.specs.Answers as lap
use Rattle.lister.specs.Lists as listing
use Rattle.lister.specs.Answers.{back, comes_back}
use Rattle.schedule.specs.Writing as writing
use Rattle.outcomes.specs.Lent.{with, exit, lists}
use Rattle.outcomes.proofs.Lent.{fills, beside, writes, reads, runs}
use Rattle.outcomes.specs.Outcomes.{Listed, all_told, played_back}

pub outcomes : Listed
outcomes = record {
  length = one_answer _;
  read = one_answer _;
  write = one_outcome (λ r x. with r x.1.0) (λ a o. left o.0 o.1) (λ d. (d.answer, d.buffer)) (λ a o. refl) _;
  code = one_answer _;
  signed = one_answer _;
  read_signed = one_answer _;
  write_signed = one_outcome (λ r x. with r x.1.0) (λ a o. left o.0 o.1) (λ d. (d.answer, d.buffer)) (λ a o. refl) _;
  key_of_lap = one_outcome answer (λ a. told) lap.back (λ a. lap.comes_back) _;
  lap_of_key = one_outcome answer (λ a. told) lap.back (λ a. lap.comes_back) _;
  difference_of_pad = one_outcome answer (λ a. told) lap.back (λ a. lap.comes_back) _;
  fresh = writes (λ a. a.1.1.0) (λ x. x.1.1.0) _;
  is_sound = one_answer _;
  start_insert = reads (λ a. a.1.1.1.0) _;
  start_delete = reads (λ a. a.1.1.1.0) _;
  start_find = reads (λ a. a.1.1.1.0) _;
  start_scan = reads (λ a. a.1.1.1.1.0) _;
  turn = writes (λ a. a.1.1.0) (λ x. x.1.1.0) _;
  run = runs (λ a. a.1.1.1.0) (λ x. x.1.1.1.0) _;
  list = one_outcome (λ r x. with r x.1.1.1.0) (λ a o. listing.left o.0 o.1) back (λ a o. comes_back o.0 o.1) _;
  read_opening = one_answer _;
  read_command = one_answer _;
  write_opening = one_outcome (λ r x. with r x.1.0) (λ a o. writing.left o.0 o.1) (λ d. (d.answer, d.buffer)) (λ a o. refl) _;
  write_command = one_outcome (λ r x. with r x.1.0) (λ a o. writing.left o.0 o.1) (λ d. (d.answer, d.buffer)) (λ a o. refl) _;
  spell = fills (λ x. x.1.1.1.0) _;
  play = beside (λ a. a.1.1.1.1.0) (λ x. x.1.1.1.1.0) (λ r x. exit r x.1.1.1.1.0) (λ a. all_told) (λ d. lists (played_back d) d.evening.world) (λ a o. refl) _;
  begun = one_answer _;
  ran = one_answer _;
  no_board = one_answer _;
  end_line = one_answer _;
  keys_place = one_answer _;
}
