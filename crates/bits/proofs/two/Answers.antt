-- `bits::two` meets its contract: one byte and then one, by the law of twice n bytes.
use native.Mathlib.Omega.{arith}
use Rattle.bits.proofs.Bytes.{one_byte, twice-little, twice-big}
use Rattle.bits.proofs.two.Goals as goal

pub returns-in-Little : goal.returns-in-Little
returns-in-Little c =
    let low = c.from.ensures in
    let high = c.from-in-Little.ensures in
    (twice-little _ _ 1 c.in-Little.is (one_byte _ _ _ low (omega arith)) (one_byte _ _ _ high (omega arith)), omega arith)

pub returns-in-Big : goal.returns-in-Big
returns-in-Big c =
    let low = c.from-in-Big.ensures in
    let high = c.from-in-Big-2.ensures in
    (twice-big _ _ 1 c.in-Big.is (one_byte _ _ _ high (omega arith)) (one_byte _ _ _ low (omega arith)), omega arith)
