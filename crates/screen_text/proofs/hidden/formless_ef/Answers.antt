-- BB BF.
use Rattle.screen_text.proofs.Texts.{ef-some, ef-other}
use Rattle.screen_text.proofs.hidden.formless_ef.Goals as goal

pub returns-then-c-eq187 : goal.returns-then-c-eq187
returns-then-c-eq187 c = ef-some c.args.c c.args.d c.if-c-eq187.true

pub returns : goal.returns
returns c = ef-other c.args.c c.args.d c.if-c-eq187.false
