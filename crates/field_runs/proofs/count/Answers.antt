-- By whether the first field is an element.
use mathlib.Core.Path.{sym}
use native.Mathlib.Omega.{arith}
use Rattle.field_runs.proofs.Cases.{count-elements, count-members, positive}
use Rattle.field_runs.proofs.count.Goals as goal

pub returns-then-run-eq0 : goal.returns-then-run-eq0
returns-then-run-eq0 c = sym (count-elements _ (omega (arith, c.if-run-eq0.true)))

pub returns : goal.returns
returns c = sym (count-members _ (positive _ c.if-run-eq0.false))
