-- `bits::four` meets its contract: two bytes and then two, by the law of twice n bytes.
use native.Mathlib.Omega.{arith}
use Rattle.bits.proofs.Bytes.{twice-little, twice-big}
use Rattle.bits.proofs.four.Goals as goal

pub returns-in-Little : goal.returns-in-Little
returns-in-Little c = (twice-little _ _ 2 c.in-Little.is c.two.ensures.0 c.two-in-Little.ensures.0, omega arith)

pub returns-in-Big : goal.returns-in-Big
returns-in-Big c = (twice-big _ _ 2 c.in-Big.is c.two-in-Big-2.ensures.0 c.two-in-Big.ensures.0, omega arith)
