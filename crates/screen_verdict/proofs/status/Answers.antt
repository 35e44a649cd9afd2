-- 0, or any other number.
use Rattle.screen_verdict.proofs.Lines.{status-accepted, status-refused}
use Rattle.screen_verdict.proofs.status.Goals as goal

pub returns-then-number-eq0 : goal.returns-then-number-eq0
returns-then-number-eq0 c = status-accepted c.args.r c.if-number-eq0.true

pub returns : goal.returns
returns c = status-refused c.args.r c.if-number-eq0.false
