-- By whether the first field is an element.
use mathlib.Core.Path.{sym}
use Rattle.field_runs.proofs.Cases.{taken-members, taken-element, some-element}
use Rattle.field_runs.proofs.taken.Goals as goal

pub returns-then-run-gt0 : goal.returns-then-run-gt0
returns-then-run-gt0 c = sym (taken-members _ c.if-run-gt0.true)

pub overflow_sub-result : goal.overflow_sub-result
overflow_sub-result c = some-element _ c.if-run-gt0.false c.requires

pub returns : goal.returns
returns c = sym (taken-element _ c.if-run-gt0.false)
