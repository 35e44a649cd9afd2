-- With the one in front, or without.
use Rattle.screen_meaning.proofs.Forms.{significand-low, significand-high}
use Rattle.screen_meaning.proofs.float.significand.Goals as goal

pub returns-then-raised-eq0 : goal.returns-then-raised-eq0
returns-then-raised-eq0 c = significand-low c.args.unit c.args.raised c.args.fraction c.if-raised-eq0.true

pub returns : goal.returns
returns c = significand-high c.args.unit c.args.raised c.args.fraction c.if-raised-eq0.false
