-- `bits::part` meets its contract: one law of two shifts serves both orders.
use mathlib.Core.Path.{sym}
use Rattle.bits.proofs.Parts.{part_none, part-little, part-big}
use Rattle.bits.proofs.part.Goals as goal

pub returns-then-width-eq0 : goal.returns-then-width-eq0
returns-then-width-eq0 c = rw c.if-width-eq0.true (sym (part_none _ _ _ _))

pub returns-in-Little : goal.returns-in-Little
returns-in-Little c = part-little _ _ _ c.in-Little.is c.requires

pub returns-in-Big : goal.returns-in-Big
returns-in-Big c = part-big _ _ _ c.in-Big.is c.requires
