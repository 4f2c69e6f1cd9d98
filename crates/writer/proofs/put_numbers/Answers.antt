-- `writer::put_numbers` meets its contract: there is room for each number, and what is left behind it does the rest.
use Rattle.std.proofs.Common.{◌∙◌, arith}
use Rattle.writer.proofs.Numbers.{is_written, rest_put, rest_room}
use Rattle.writer.proofs.put_numbers.Goals as goal

pub unwrap-end-requires : goal.unwrap-end-requires
unwrap-end-requires c = is_written c.args.numbers.now c.loop-n.buffer _ _ _ _ c.write.ensures (omega arith) c.loop-n.invariant.1

pub loop-n-preserved : goal.loop-n-preserved
loop-n-preserved c = (
  rest_put c.args.numbers.now c.loop-n.buffer _ _ _ _ c.write.ensures (omega arith) c.loop-n.invariant.1 _ c.unwrap-end.ensures ∙ c.loop-n.invariant.0,
  rest_room c.args.numbers.now c.loop-n.buffer _ _ _ _ c.write.ensures (omega arith) c.loop-n.invariant.1 _ c.unwrap-end.ensures,
)
