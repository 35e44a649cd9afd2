-- The least is one.
use Rattle.screen_meaning.proofs.Forms.{power-one, power-same}
use Rattle.screen_meaning.proofs.float.power_of.Goals as goal

pub returns-then-raised-eq0 : goal.returns-then-raised-eq0
returns-then-raised-eq0 c = power-one c.args.raised c.if-raised-eq0.true

pub returns : goal.returns
returns c = power-same c.args.raised c.if-raised-eq0.false
