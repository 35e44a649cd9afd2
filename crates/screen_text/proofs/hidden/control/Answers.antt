-- Below 32, or 127.
use Rattle.screen_text.proofs.Texts.{control-low, control-rest}
use Rattle.screen_text.proofs.hidden.control.Goals as goal

pub returns-then-b-lt32 : goal.returns-then-b-lt32
returns-then-b-lt32 c = control-low c.args.b c.if-b-lt32.true

pub returns : goal.returns
returns c = control-rest c.args.b c.if-b-lt32.false
