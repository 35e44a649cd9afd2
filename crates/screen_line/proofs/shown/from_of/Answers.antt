-- The place's byte, or the end.
use lib.ListN.{length}
use Rattle.screen_line.proofs.Standing.{from_first, from_second}
use Rattle.screen_line.proofs.shown.from_of.Goals as goal

pub returns-then-stream-from : goal.returns-then-stream-from
returns-then-stream-from c = from_first (length c.args.stream.now) c.args.place c.if-stream-from.true

pub returns : goal.returns
returns c = from_second (length c.args.stream.now) c.args.place c.if-stream-from.false
