-- A quote, or else a backslash.
use Rattle.screen_text.proofs.Texts.{marked-quote, marked-rest}
use Rattle.screen_text.proofs.marked.Goals as goal

pub returns-then-c-eq34 : goal.returns-then-c-eq34
returns-then-c-eq34 c = marked-quote c.args.c c.if-c-eq34.true

pub returns : goal.returns
returns c = marked-rest c.args.c c.if-c-eq34.false
