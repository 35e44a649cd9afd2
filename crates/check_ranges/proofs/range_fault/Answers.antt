-- The tests of the definition, in its order; a whole range can be read.
use Rattle.std.proofs.Common.{sym, ap, ◌∙◌, arith, lt-ltb, eq-eqb, ne_eqb}
use Rattle.table_offsets.specs.Check.{u64, key, low_at, high_at, range_fault, pick_n}
use Rattle.table_offsets.specs.Faults.{number, fault_number}
use Rattle.table_offsets.proofs.Sound.{head-fine, range-room}
use Rattle.table_offsets.proofs.Told.{none, first-none, first-exit}
use Rattle.table_offsets.proofs.Walked.{range-on}
use Rattle.check_ranges.proofs.range_fault.Goals as goal

-- The record's head, and its kind

pub returns-in_err-head_fault : goal.returns-in_err-head_fault
unfolding range_fault
returns-in_err-head_fault c = first-exit c.head_fault.ensures c.in_err-head_fault.was _ c.from_residual.ensures.1 _

pub bounds-table-at : goal.bounds-table-at
bounds-table-at c = (head-fine _ _ (none c.head_fault.ensures c.in_ok-head_fault.was)).0

pub returns-then-table-at-ne-RANGE : goal.returns-then-table-at-ne-RANGE
unfolding range_fault low_at high_at u64 pick_n fault_number number
returns-then-table-at-ne-RANGE c = simp (first-none c.head_fault.ensures c.in_ok-head_fault.was, ne_eqb _ _ c.if-table-at-ne-RANGE.true)

-- The sign

pub returns-then-sign-gt1 : goal.returns-then-sign-gt1
unfolding range_fault low_at high_at u64 pick_n fault_number number
returns-then-sign-gt1 c =
    let whole = first-none c.head_fault.ensures c.in_ok-head_fault.was in
    simp (whole, eq-eqb _ _ c.if-table-at-ne-RANGE.false, sym c.byte-sign.ensures, lt-ltb _ _ c.if-sign-gt1.true)

-- The two ends

pub number-requires : goal.number-requires
number-requires c =
    omega (arith, range-room _ _ (none c.head_fault.ensures c.in_ok-head_fault.was) c.if-table-at-ne-RANGE.false)

pub number-requires-2 : goal.number-requires-2
number-requires-2 c =
    omega (arith, range-room _ _ (none c.head_fault.ensures c.in_ok-head_fault.was) c.if-table-at-ne-RANGE.false)

pub returns : goal.returns
returns c =
    let s = c.byte-sign in
    let low_end = c.key-low.ensures ∙ ap (λ v. key s.result v) c.number.ensures.0 in
    let high_end = c.key-high.ensures ∙ ap (λ v. key s.result v) c.number-2.ensures.0 in
    let whole = none c.head_fault.ensures c.in_ok-head_fault.was in
    c.bounds_fault.ensures
    ∙ sym (range-on _ _ _ _ _ _ _ whole c.if-table-at-ne-RANGE.false s.ensures c.if-sign-gt1.false low_end high_end)
