-- The value, or what is left.
use native.Mathlib.Omega.{arith}
use lib.ListN.{length}
use Rattle.screen_line.proofs.Standing.{from-most, bytes-first, bytes-second}
use Rattle.screen_line.proofs.shown.bytes_of.Goals as goal

pub overflow_sub-room : goal.overflow_sub-room
overflow_sub-room c = omega (arith, c.from_of.ensures, from-most (length c.args.stream.now) c.args.place)

pub returns-then-room-n : goal.returns-then-room-n
returns-then-room-n c =
    bytes-first (length c.args.stream.now) c.args.place c.args.value c.from_of.result
    c.from_of.ensures c.if-room-n.true

pub returns : goal.returns
returns c =
    bytes-second (length c.args.stream.now) c.args.place c.args.value c.from_of.result
    c.from_of.ensures c.if-room-n.false
