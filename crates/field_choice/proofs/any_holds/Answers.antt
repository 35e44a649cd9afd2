-- The invariant: whether one of the ranges left holds the number is what is asked.
use Rattle.std.proofs.Common.{sym, ◌∙◌}
use Rattle.field_choice.proofs.Search.{ranges-start, ranges-hit, ranges-next, ranges-done}
use Rattle.field_choice.proofs.any_holds.Goals as goal

pub loop-i-init : goal.loop-i-init
loop-i-init c = ranges-start _ _ _ _ _

pub returns-then-holds : goal.returns-then-holds
returns-then-holds c = sym (ranges-hit _ _ _ c.loop-i.invariant c.loop-i-test.true (sym c.holds.ensures ∙ c.if-holds.true))

pub loop-i-preserved : goal.loop-i-preserved
loop-i-preserved c = ranges-next _ _ _ c.loop-i.invariant c.loop-i-test.true (sym c.holds.ensures ∙ c.if-holds.false)

pub returns : goal.returns
returns c = sym (ranges-done _ _ _ c.loop-i.invariant c.loop-i-test.false)
