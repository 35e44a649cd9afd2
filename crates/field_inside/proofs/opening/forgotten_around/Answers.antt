-- By the two tests: whether there is an element, and whether its class has a word in the list.
use mathlib.Core.Path.{sym, ◌∙◌}
use Rattle.class_layout.specs.Notes.{sets_noted}
use Rattle.field_inside.proofs.Forgotten.{forgets-empty, forgets-noted, forgets-past}
use Rattle.field_inside.proofs.opening.forgotten_around.Goals as goal
use Rattle.field_inside.proofs.opening.forgotten_around.Lts as lts
use Rattle.field_inside.proofs.opening.forgotten_around.Tie as tie
use Rattle.field_inside.proofs.opening.forgotten_around.Reads as reads

-- Places of the code: all is given; there is an element

abbrev AtStart : Type 0
AtStart = lts.Start tie.the-claims reads.Pre reads.Post

abbrev AtSome : Type 0
AtSome = lts.Else1 tie.the-claims reads.Pre reads.Post

-- The way back

abbrev to_start : AtSome → AtStart
to_start c = c.before.before

-- What is said in each case

pub returns-then-count-eq0 : goal.returns-then-count-eq0
returns-then-count-eq0 c = sym (forgets-empty _ _ _ c.if-count-eq0.true)

pub returns-then-at-aligns : goal.returns-then-at-aligns
unfolding sets_noted
returns-then-at-aligns c =
    let d = c.before.before.before.before in
    let a = d.args in
    c.sets_of.ensures.0 ∙ sym (forgets-noted a.aligns.now a.at a.count d.if-count-eq0.false)

pub returns : goal.returns
returns c =
    let d = c.before.before in
    let a = d.args in
    sym (forgets-past a.aligns.now a.at a.count d.if-count-eq0.false c.if-at-aligns.false)
