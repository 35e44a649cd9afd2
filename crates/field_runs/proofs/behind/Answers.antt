-- By whether the first field is an element.
use mathlib.Core.Path.{sym}
use native.Mathlib.Omega.{arith}
use Rattle.field_runs.proofs.Cases.{behind-elements, behind-members, positive}
use Rattle.field_runs.proofs.behind.Goals as goal

pub returns-then-run-eq0 : goal.returns-then-run-eq0
returns-then-run-eq0 c = rw c.if-run-eq0.true (sym (behind-elements _ (omega (arith, c.if-run-eq0.true)) _ _ _))

pub returns : goal.returns
returns c = rw c.size_at.ensures.0 (sym (behind-members _ (positive _ c.if-run-eq0.false) _ _ _))
