-- Sixteen digits, or one for each four bits.
use Rattle.screen_meaning.proofs.Hexes.{digits-all, digits-some}
use Rattle.screen_meaning.proofs.blob.digits_of.Goals as goal

pub returns-then-bits-gt60 : goal.returns-then-bits-gt60
returns-then-bits-gt60 c = digits-all c.args.bits c.if-bits-gt60.true

pub returns : goal.returns
returns c = digits-some c.args.bits c.if-bits-gt60.false
