-- By the table of body lengths.
use mathlib.Core.Path.{sym, ◌∙◌}
use native.Mathlib.Omega.{arith}
use Rattle.rules.specs.Record.{u8}
use Rattle.class_layout.proofs.NextRecord.{next_known, next-unknown}
use Rattle.screen_clock.proofs.Walked.{behind-next}
use Rattle.screen_clock.proofs.behind.Goals as goal

-- A record of a kind that there is

pub overflow_add-result : goal.overflow_add-result
overflow_add-result c = omega (arith, c.requires)

pub overflow_add-result-in-Some : goal.overflow_add-result-in-Some
unfolding u8
overflow_add-result-in-Some c =
    let known = next_known c.args.table.now c.args.at _ (sym c.body_of.ensures ∙ c.in-Some.is) in
    omega (arith, known.1, c.requires)

pub returns-in-Some : goal.returns-in-Some
unfolding u8
returns-in-Some c =
    let a = c.args in
    let known = next_known a.table.now a.at _ (sym c.body_of.ensures ∙ c.in-Some.is) in
    sym (behind-next a.table.now a.at ∙ known.0)

-- A byte that is no kind

pub returns-in-None : goal.returns-in-None
unfolding u8
returns-in-None c =
    let a = c.args in
    sym (behind-next a.table.now a.at ∙ next-unknown a.table.now a.at (sym c.body_of.ensures ∙ c.in-None.is))
