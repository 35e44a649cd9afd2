-- No number but 0, or by a division.
use Rattle.screen_meaning.proofs.Nearest.{below-high, below-low}
use Rattle.screen_meaning.proofs.millionths.below_up.Goals as goal

pub returns-then-up-ge40 : goal.returns-then-up-ge40
returns-then-up-ge40 c = below-high c.args.m c.args.up c.if-up-ge40.true

pub returns : goal.returns
returns c = below-low c.args.m c.args.up c.power.result c.power.ensures
