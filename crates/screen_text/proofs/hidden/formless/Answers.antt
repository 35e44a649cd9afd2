-- By the first byte.
use mathlib.Core.Path.{◌∙◌}
use Rattle.screen_text.proofs.Texts.{formless-e2, formless-ef, formless-other}
use Rattle.screen_text.proofs.hidden.formless.Goals as goal

pub returns-then-b-eq226 : goal.returns-then-b-eq226
returns-then-b-eq226 c =
    let a = c.args in
    c.formless_e2.ensures ∙ formless-e2 a.b a.c a.d c.if-b-eq226.true

pub returns-then-b-eq239 : goal.returns-then-b-eq239
returns-then-b-eq239 c =
    let a = c.args in
    c.formless_ef.ensures ∙ formless-ef a.b a.c a.d c.if-b-eq226.false c.if-b-eq239.true

pub returns : goal.returns
returns c =
    let a = c.args in
    formless-other a.b a.c a.d c.if-b-eq226.false c.if-b-eq239.false
