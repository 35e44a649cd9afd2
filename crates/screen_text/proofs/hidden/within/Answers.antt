-- From the least to the greatest.
use Rattle.screen_text.proofs.Texts.{within_low, within-below}
use Rattle.screen_text.proofs.hidden.within.Goals as goal

pub returns-then-low-b : goal.returns-then-low-b
returns-then-low-b c = within_low c.args.low c.args.high c.args.b c.if-low-b.true

pub returns : goal.returns
returns c = within-below c.args.low c.args.high c.args.b c.if-low-b.false
