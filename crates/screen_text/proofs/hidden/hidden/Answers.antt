-- The first test that is true, or the last one.
use mathlib.Core.Path.{sym, ◌∙◌}
use Rattle.screen_text.specs.Escape.{hidden}
use Rattle.screen_text.proofs.Texts.{any-1, any-on}
use Rattle.screen_text.proofs.hidden.hidden.Goals as goal

pub returns-then-control : goal.returns-then-control
unfolding hidden
returns-then-control c =
    let a = c.args in
    any-1 _ _ (sym c.control.ensures ∙ c.if-control.true)

pub returns-then-control2 : goal.returns-then-control2
unfolding hidden
returns-then-control2 c =
    let a = c.args in
    any-on _ _ _
    (sym c.control.ensures ∙ c.if-control.false)
    (any-1 _ _ (sym c.control2.ensures ∙ c.if-control2.true))

pub returns-then-control2-2 : goal.returns-then-control2-2
unfolding hidden
returns-then-control2-2 c =
    let a = c.args in
    any-on _ _ _
    (sym c.control.ensures ∙ c.if-control.false)
    (any-on _ _ _
    (sym c.control2.ensures ∙ c.if-control2.false)
    (any-1 _ _ (sym c.control2-2.ensures ∙ c.if-control2-2.true)))

pub returns-then-formless : goal.returns-then-formless
unfolding hidden
returns-then-formless c =
    let a = c.args in
    any-on _ _ _
    (sym c.control.ensures
    ∙ c.if-control.false)
    (any-on _ _ _
    (sym c.control2.ensures ∙ c.if-control2.false)
    (any-on _ _ _
    (sym c.control2-2.ensures ∙ c.if-control2-2.false)
    (any-1 _ _ (sym c.formless.ensures ∙ c.if-formless.true))))

pub returns-then-formless-2 : goal.returns-then-formless-2
unfolding hidden
returns-then-formless-2 c =
    let a = c.args in
    any-on _ _ _
    (sym c.control.ensures
    ∙ c.if-control.false)
    (any-on _ _ _
    (sym c.control2.ensures
    ∙ c.if-control2.false)
    (any-on _ _ _
    (sym c.control2-2.ensures ∙ c.if-control2-2.false)
    (any-on _ _ _
    (sym c.formless.ensures ∙ c.if-formless.false)
    (any-1 _ _ (sym c.formless-2.ensures ∙ c.if-formless-2.true)))))

pub returns : goal.returns
unfolding hidden
returns c =
    let a = c.args in
    any-on _ _ _
    (sym c.control.ensures
    ∙ c.if-control.false)
    (any-on _ _ _
    (sym c.control2.ensures
    ∙ c.if-control2.false)
    (any-on _ _ _
    (sym c.control2-2.ensures ∙ c.if-control2-2.false)
    (any-on _ _ _
    (sym c.formless.ensures ∙ c.if-formless.false)
    (any-on _ _ _
    (sym c.formless-2.ensures ∙ c.if-formless-2.false)
    c.formless-3.ensures))))
