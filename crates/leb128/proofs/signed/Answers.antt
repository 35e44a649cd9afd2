-- `leb128::signed` meets its contract: each return is the law for what the first nine bytes said, and the tenth behind them.
use mathlib.Core.Path.{refl}
use native.Mathlib.Omega.{arith}
use Rattle.std.proofs.Common.{rules}
use Rattle.leb128.proofs.FirstNine.{passed-short}
use Rattle.leb128.proofs.Tenth.{says-short, says-ended, says_on, signed-past, signed-ended, signed-zeros, signed-ones, signed-large}
use Rattle.leb128.proofs.signed.Goals as goal

pub overflow_mul-width : goal.overflow_mul-width
overflow_mul-width c =
    let ended = says-ended _ c.first_nine.ensures c.in-Ended.is in
    omega (arith, ended.most)

pub sign_extend-requires : goal.sign_extend-requires
sign_extend-requires c =
    let ended = says-ended _ c.first_nine.ensures c.in-Ended.is in
    (omega (arith, ended.some), omega (arith, ended.most), ended.small)

pub returns-then-bytes-le9 : goal.returns-then-bytes-le9
returns-then-bytes-le9 c =
    let on = says_on _ c.first_nine.ensures c.in-GoOn.is in
    rw (← c.readable-bytes.ensures) (signed-past _ (passed-short on c.if-bytes-le9.true))

pub overflow_add-result : goal.overflow_add-result
overflow_add-result c =
    let on = says_on _ c.first_nine.ensures c.in-GoOn.is in
    record { fits = omega (arith, on.small) }

pub returns-in-Short : goal.returns-in-Short
returns-in-Short c =
    rw (← c.readable-bytes.ensures) (signed-past _ (says-short _ c.first_nine.ensures c.in-Short.is))

pub returns-in-Ended : goal.returns-in-Ended
returns-in-Ended c =
    let ended = says-ended _ c.first_nine.ensures c.in-Ended.is in
    rw (← c.readable-bytes.ensures) (signed-ended _ ended c.sign_extend.ensures)

pub returns-in-0 : goal.returns-in-0
returns-in-0 c =
    let on = says_on _ c.first_nine.ensures c.in-GoOn.is in
    rw (← c.readable-bytes.ensures) (signed-zeros _ on _ c.if-bytes-le9.false refl c.in-0.is)

pub returns-in-127 : goal.returns-in-127
returns-in-127 c =
    let on = says_on _ c.first_nine.ensures c.in-GoOn.is in
    rw (← c.readable-bytes.ensures) (signed-ones _ on _ c.if-bytes-le9.false refl c.in-127.is)

pub returns-in_default : goal.returns-in_default
returns-in_default c =
    let on = says_on _ c.first_nine.ensures c.in-GoOn.is in
    rw (← c.readable-bytes.ensures)
    (signed-large _ on _ c.if-bytes-le9.false refl (search rules) (search rules))
