-- `leb128::unsigned` meets its contract: each return is the law for what the first nine bytes said, and the tenth behind them.
use native.Mathlib.Omega.{arith}
use Rattle.leb128.proofs.FirstNine.{passed-short}
use Rattle.leb128.proofs.Tenth.{says-short, says-ended, says_on, unsigned-past, unsigned-ended, unsigned-tenth, unsigned-large}
use Rattle.leb128.proofs.unsigned.Goals as goal

pub returns-then-bytes-le9 : goal.returns-then-bytes-le9
returns-then-bytes-le9 c =
    let on = says_on _ c.first_nine.ensures c.in-GoOn.is in
    rw (← c.readable-bytes.ensures) (unsigned-past _ (passed-short on c.if-bytes-le9.true))

pub returns-then-too_large : goal.returns-then-too_large
returns-then-too_large c =
    let on = says_on _ c.first_nine.ensures c.in-GoOn.is in
    rw (← c.readable-bytes.ensures)
    (unsigned-large _ on c.from-tenth.result c.if-bytes-le9.false c.from-tenth.ensures (omega arith))

pub overflow_add-result : goal.overflow_add-result
overflow_add-result c =
    let on = says_on _ c.first_nine.ensures c.in-GoOn.is in
    record { fits = omega (arith, on.small) }

pub returns-in-Short : goal.returns-in-Short
returns-in-Short c =
    rw (← c.readable-bytes.ensures) (unsigned-past _ (says-short _ c.first_nine.ensures c.in-Short.is))

pub returns-in-Ended : goal.returns-in-Ended
returns-in-Ended c =
    rw (← c.readable-bytes.ensures) (unsigned-ended _ (says-ended _ c.first_nine.ensures c.in-Ended.is))

pub returns-else-too_large : goal.returns-else-too_large
returns-else-too_large c =
    let on = says_on _ c.first_nine.ensures c.in-GoOn.is in
    rw (← c.readable-bytes.ensures)
    (unsigned-tenth _ on c.from-tenth.result c.if-bytes-le9.false c.from-tenth.ensures (omega arith))
