-- `bits::eight` meets its contract: four bytes and then four, by the law of twice n bytes.
use Rattle.bits.proofs.Bytes.{twice-little, twice-big}
use Rattle.bits.proofs.eight.Goals as goal

pub returns-in-Little : goal.returns-in-Little
returns-in-Little c = twice-little _ _ 4 c.in-Little.is c.four.ensures.0 c.four-in-Little.ensures.0

pub returns-in-Big : goal.returns-in-Big
returns-in-Big c = twice-big _ _ 4 c.in-Big.is c.four-in-Big-2.ensures.0 c.four-in-Big.ensures.0
