-- `bits::number` meets its contract: on a byte boundary by the laws of whole bytes, within eight bytes by the law of a part, else by the
-- walk's own.
use native.Mathlib.Omega.{arith}
use Rattle.bits.proofs.Bytes.{one_byte, on-boundary}
use Rattle.bits.proofs.Parts.{part-of-eight}
use Rattle.bits.proofs.number.Goals as goal

pub returns-in-8 : goal.returns-in-8
returns-in-8 c = on-boundary _ _ _ _ (omega arith) (omega arith) (one_byte _ _ _ c.from.ensures (omega arith))

pub returns-in-16 : goal.returns-in-16
returns-in-16 c = on-boundary _ _ _ _ (omega arith) (omega arith) c.two.ensures.0

pub returns-in-32 : goal.returns-in-32
returns-in-32 c = on-boundary _ _ _ _ (omega arith) (omega arith) c.four.ensures.0

pub returns-then-stream-at-ge8 : goal.returns-then-stream-at-ge8
returns-then-stream-at-ge8 c = part-of-eight _ _ _ _ c.if-passed-width-le64.true c.eight.ensures c.part.ensures
