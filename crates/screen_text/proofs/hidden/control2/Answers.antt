-- C2, and a byte from 80 to 9F.
use mathlib.Core.Path.{◌∙◌}
use Rattle.screen_text.proofs.Texts.{control2-first, control2-other}
use Rattle.screen_text.proofs.hidden.control2.Goals as goal

pub returns-then-b-eq194 : goal.returns-then-b-eq194
returns-then-b-eq194 c = c.within.ensures ∙ control2-first c.args.b c.args.c c.if-b-eq194.true

pub returns : goal.returns
returns c = control2-other c.args.b c.args.c c.if-b-eq194.false
