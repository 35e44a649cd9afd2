-- The tests of the definition, in its order.
use Rattle.std.proofs.Common.{sym, eq-eqb, ne_eqb}
use Rattle.table_offsets.specs.Check.{option_fault, pick_n}
use Rattle.table_offsets.specs.Faults.{number, fault_number}
use Rattle.table_offsets.proofs.Told.{none, first-none, first-exit}
use Rattle.table_offsets.proofs.Sound.{head-fine}
use Rattle.check_ranges.proofs.option_fault.Goals as goal

pub returns-in_err-head_fault : goal.returns-in_err-head_fault
unfolding option_fault
returns-in_err-head_fault c = first-exit c.head_fault.ensures c.in_err-head_fault.was _ c.from_residual.ensures.1 _

pub bounds-table-at : goal.bounds-table-at
bounds-table-at c = (head-fine _ _ (none c.head_fault.ensures c.in_ok-head_fault.was)).0

pub returns-then-table-at-ne-OPTION : goal.returns-then-table-at-ne-OPTION
unfolding option_fault pick_n fault_number number
returns-then-table-at-ne-OPTION c = simp (first-none c.head_fault.ensures c.in_ok-head_fault.was, ne_eqb _ _ c.if-table-at-ne-OPTION.true)

pub returns-then-within : goal.returns-then-within
unfolding option_fault pick_n fault_number number
returns-then-within c =
    let whole = first-none c.head_fault.ensures c.in_ok-head_fault.was in
    simp (whole, eq-eqb _ _ c.if-table-at-ne-OPTION.false, sym c.byte.ensures, sym c.within.ensures, c.if-within.true)

pub returns : goal.returns
unfolding option_fault pick_n fault_number number
returns c =
    let whole = first-none c.head_fault.ensures c.in_ok-head_fault.was in
    simp (whole, eq-eqb _ _ c.if-table-at-ne-OPTION.false, sym c.byte.ensures, sym c.within.ensures, c.if-within.false)
