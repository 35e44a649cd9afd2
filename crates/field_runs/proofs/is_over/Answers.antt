-- By what is left, first what is most often there.
use mathlib.Core.Path.{sym, ◌∙◌}
use native.Mathlib.Omega.{arith}
use Rattle.field_runs.proofs.Cases.{forgetting-some, forgetting-none, not-over, over-free, more-free}
use Rattle.field_runs.proofs.Cases.{forgets-free, free-rest, positive}
use Rattle.field_runs.proofs.is_over.Goals as goal

pub returns-then-run-ne0 : goal.returns-then-run-ne0
returns-then-run-ne0 c = sym (not-over _ (positive _ c.if-run-ne0.true))

pub returns-then-run-ne0-2 : goal.returns-then-run-ne0-2
returns-then-run-ne0-2 c = sym (over-free _ (omega (arith, c.if-run-ne0.false)) ∙ more-free _ (positive _ c.if-run-ne0-2.true))

pub returns-then-run-ne0-3 : goal.returns-then-run-ne0-3
returns-then-run-ne0-3 c =
    let none = c.if-run-ne0.false in
    sym (over-free _ (omega (arith, none)) ∙ forgets-free _ (forgetting-some _ c.if-run-ne0-3.true))

pub returns : goal.returns
returns c =
    let none = c.if-run-ne0.false in
    sym (over-free _ (omega (arith, none)) ∙ free-rest _ (omega (arith, c.if-run-ne0-2.false)) (forgetting-none _ c.if-run-ne0-3.false))
