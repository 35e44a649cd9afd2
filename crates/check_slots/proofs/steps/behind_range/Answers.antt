-- A range takes eighteen bytes.
use mathlib.Core.Path.{sym, ◌∙◌}
use native.Mathlib.Omega.{arith}
use Rattle.table_offsets.specs.Check.{pick_n}
use Rattle.check_slots.specs.Homes.{behind_range}
use Rattle.check_slots.proofs.Onward.{a-here}
use Rattle.check_slots.proofs.steps.behind_range.Goals as goal

pub overflow_add-result : goal.overflow_add-result
overflow_add-result c = omega (arith, (a-here _ _ _ (sym c.is_a.ensures ∙ c.if-is_a.true)).0.within, c.well_formed)

pub returns-then-is_a : goal.returns-then-is_a
unfolding behind_range pick_n
returns-then-is_a c = simp (sym c.is_a.ensures ∙ c.if-is_a.true)

pub returns : goal.returns
unfolding behind_range pick_n
returns c = simp (sym c.is_a.ensures ∙ c.if-is_a.false, c.nowhere.ensures)
