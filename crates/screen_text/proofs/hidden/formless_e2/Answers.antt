-- By the second byte.
use mathlib.Core.Path.{sym, ◌∙◌}
use Rattle.screen_text.proofs.Texts.{e2-low, e2-high, e2-next, e2-other}
use Rattle.screen_text.proofs.hidden.formless_e2.Goals as goal

pub returns-then-within : goal.returns-then-within
returns-then-within c =
    let a = c.args in
    e2-low a.c a.d c.if-c-eq128.true (sym c.within.ensures ∙ c.if-within.true)

pub returns-then-c-eq128 : goal.returns-then-c-eq128
returns-then-c-eq128 c =
    let a = c.args in
    c.within-then-c-eq128.ensures ∙ e2-high a.c a.d c.if-c-eq128.true
    (sym c.within.ensures ∙ c.if-within.false)

pub returns-then-c-eq129 : goal.returns-then-c-eq129
returns-then-c-eq129 c =
    let a = c.args in
    c.within-then-c-eq129.ensures ∙ e2-next a.c a.d c.if-c-eq128.false c.if-c-eq129.true

pub returns : goal.returns
returns c =
    let a = c.args in
    e2-other a.c a.d c.if-c-eq128.false c.if-c-eq129.false
