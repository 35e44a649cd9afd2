-- The tests of the definition, in its order.
use mathlib.Core.Path.{sym}
use borrow.Author.Tests.{eq-eqb, ne_eqb}
use Rattle.table_offsets.specs.Check.{first_fault, pick_n}
use Rattle.table_offsets.specs.Faults.{number, fault_number}
use Rattle.table_offsets.proofs.Sound.{head-fine}
use Rattle.table_offsets.proofs.Told.{none, first-none, first-exit}
use Rattle.check_fragment.proofs.first_fault.Goals as goal

pub returns-in_err-head_fault : goal.returns-in_err-head_fault
unfolding first_fault
returns-in_err-head_fault c = first-exit c.head_fault.ensures c.in_err-head_fault.was _ c.from_residual.ensures.1 _

pub bounds-table-0 : goal.bounds-table-0
bounds-table-0 c = (head-fine _ _ (none c.head_fault.ensures c.in_ok-head_fault.was)).0

pub returns-then-table-ne-PREAMBLE : goal.returns-then-table-ne-PREAMBLE
unfolding first_fault pick_n fault_number number
returns-then-table-ne-PREAMBLE c =
    simp (first-none c.head_fault.ensures c.in_ok-head_fault.was, ne_eqb _ _ c.if-table-ne-PREAMBLE.true)

pub returns-then-byte-ne-VERSION : goal.returns-then-byte-ne-VERSION
unfolding first_fault pick_n fault_number number
returns-then-byte-ne-VERSION c =
    let whole = first-none c.head_fault.ensures c.in_ok-head_fault.was in
    simp (whole, eq-eqb _ _ c.if-table-ne-PREAMBLE.false, sym c.byte.ensures, ne_eqb _ _ c.if-byte-ne-VERSION.true)

pub returns : goal.returns
unfolding first_fault pick_n fault_number number
returns c =
    let whole = first-none c.head_fault.ensures c.in_ok-head_fault.was in
    simp (whole, eq-eqb _ _ c.if-table-ne-PREAMBLE.false, sym c.byte.ensures, eq-eqb _ _ c.if-byte-ne-VERSION.false)
