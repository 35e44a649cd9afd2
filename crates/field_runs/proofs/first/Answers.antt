-- By whether the first field is an element.
use mathlib.Core.Path.{sym}
use native.Mathlib.Omega.{arith}
use Rattle.field_runs.proofs.Cases.{first-element, first_member, positive}
use Rattle.field_runs.proofs.first.Goals as goal

pub returns-then-run-eq0 : goal.returns-then-run-eq0
returns-then-run-eq0 c = sym (first-element _ (omega (arith, c.if-run-eq0.true)))

pub returns : goal.returns
returns c = sym (first_member _ (positive _ c.if-run-eq0.false))
