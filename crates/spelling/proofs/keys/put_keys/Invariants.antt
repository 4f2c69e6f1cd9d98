-- The keys before the one reached have been put, none in more than its room.
use Rattle.std.proofs.Common.{◌≡◌, ◌*◌, ◌≤◌, length}
use Rattle.lines.specs.Text.{keys_text}
use Rattle.lines.specs.Page.{page, fill}
use Rattle.lines.specs.Lengths.{key_room}
use Rattle.spelling.proofs.keys.put_keys.Given as goal

abbrev pub invariant-loop-i : goal.invariant-loop-i
invariant-loop-i l = record {
  filled : page l.place l.out ≡ fill (keys_text l.found l.from l.i) (page l.at l.initial.out);
  short : length (keys_text l.found l.from l.i) ≤ l.i * key_room;
}
