-- Behind the option its ranges.
use mathlib.Core.Path.{sym, ◌∙◌}
use native.Mathlib.Omega.{arith}
use Rattle.table_offsets.specs.Check.{pick_n}
use Rattle.check_slots.specs.Homes.{behind_option}
use Rattle.check_slots.proofs.Onward.{a-here}
use Rattle.check_slots.proofs.steps.behind_option.Goals as goal

pub overflow_add-at : goal.overflow_add-at
overflow_add-at c =
    omega (arith, (a-here _ _ _ (sym c.is_a.ensures ∙ c.if-is_a.true)).0.within, c.well_formed)

pub overflow_add-at-then-is_a : goal.overflow_add-at-then-is_a
overflow_add-at-then-is_a c = omega (arith, (a-here _ _ _ (sym c.is_a.ensures ∙ c.if-is_a.true)).0.within, c.well_formed)

pub returns-then-is_a : goal.returns-then-is_a
unfolding behind_option pick_n
returns-then-is_a c =
    simp (
      sym c.is_a.ensures ∙ c.if-is_a.true,
      sym c.byte.ensures,
      sym c.wide.ensures.0,
      c.behind_ranges.ensures,
    )

pub returns : goal.returns
unfolding behind_option pick_n
returns c = simp (sym c.is_a.ensures ∙ c.if-is_a.false, c.nowhere.ensures)
