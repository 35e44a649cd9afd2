-- The tests of the definition, in its order.
use mathlib.Core.Path.{sym}
use Rattle.field_runs.proofs.Cases.{more-free, rest-free, free-forgets}
use Rattle.field_runs.proofs.is_free.Goals as goal

pub returns-then-run-gt0 : goal.returns-then-run-gt0
returns-then-run-gt0 c = sym (more-free _ c.if-run-gt0.true)

pub returns-then-run-gt0-2 : goal.returns-then-run-gt0-2
returns-then-run-gt0-2 c = sym (rest-free _ c.if-run-gt0.false c.if-run-gt0-2.true)

pub returns : goal.returns
returns c = sym (free-forgets _ c.if-run-gt0.false c.if-run-gt0-2.false)
