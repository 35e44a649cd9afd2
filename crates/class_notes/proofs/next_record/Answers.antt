-- By the table of body lengths.
use mathlib.Core.Path.{sym, ◌∙◌}
use native.Mathlib.Omega.{arith}
use Rattle.rules.specs.Record.{u8}
use Rattle.class_layout.proofs.NextRecord.{next_known, next-unknown}
use Rattle.class_notes.proofs.next_record.Goals as goal

-- A record of a kind that there is

pub overflow_add-result-in-Some : goal.overflow_add-result-in-Some
unfolding u8
overflow_add-result-in-Some c =
    let a = c.args in
    omega (arith, next_known a.table.now a.at _ (sym c.body_of.ensures ∙ c.in-Some.is), c.requires)

pub returns-in-Some : goal.returns-in-Some
unfolding u8
returns-in-Some c =
    let a = c.args in
    let n = next_known a.table.now a.at _ (sym c.body_of.ensures ∙ c.in-Some.is) in
    (sym n.0, omega (arith, n.1))

-- A byte that is no kind

pub returns-in-None : goal.returns-in-None
unfolding u8
returns-in-None c =
    let a = c.args in
    (sym (next-unknown a.table.now a.at (sym c.body_of.ensures ∙ c.in-None.is)), omega arith)
