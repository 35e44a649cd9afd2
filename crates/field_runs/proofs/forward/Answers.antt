-- By what is left of the run, and whether slots are forgotten.
use mathlib.Core.Path.{sym, ◌∙◌}
use Rattle.field_runs.proofs.Cases.{forgetting-some, forgetting-none}
use Rattle.field_runs.proofs.Cases.{forward-members, forward-elements, forward-taken, forward-later, count-elements}
use Rattle.field_runs.proofs.forward.Goals as goal

pub returns-then-run-gt0 : goal.returns-then-run-gt0
returns-then-run-gt0 c = sym (forward-members _ c.if-run-gt0.true)

-- no member is left, and an element is

pub taken-requires : goal.taken-requires
taken-requires c =
    rw (count-elements c.args.run c.if-run-gt0.false) c.if-run-gt0-2.true

pub returns-then-run-ne0 : goal.returns-then-run-ne0
returns-then-run-ne0 c =
    let forgets = forgetting-some _ c.if-run-ne0.true in
    c.taken.ensures ∙ sym (forward-taken _ c.if-run-gt0.false c.if-run-gt0-2.true forgets)

pub returns-then-run-gt0-2 : goal.returns-then-run-gt0-2
returns-then-run-gt0-2 c =
    sym (forward-elements _ c.if-run-gt0.false c.if-run-gt0-2.true (forgetting-none _ c.if-run-ne0.false))

-- nothing is left but what was put off

pub returns : goal.returns
returns c = c.members.ensures ∙ sym (forward-later _ c.if-run-gt0.false c.if-run-gt0-2.false)
