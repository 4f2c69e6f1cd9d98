-- The bytes before the one reached have been put, and give what they give from the start.
use Rattle.std.proofs.Common.{◌≡◌, take}
use Rattle.lines.specs.Page.{page, fill}
use Rattle.lines.proofs.page.put_text.Given as goal

abbrev pub invariant-loop-byte : goal.invariant-loop-byte
invariant-loop-byte l = page l.place l.out ≡ fill (take l.byte-index l.text) (page l.at l.initial.out)
