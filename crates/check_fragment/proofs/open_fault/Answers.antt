-- By kind, and there the tests of the definition, in its order.
use mathlib.Core.Path.{sym}
use native.Mathlib.Omega.{arith}
use borrow.Author.Tests.{lt-ltb, le-ltb, eq-eqb, ne_eqb}
use Rattle.table_offsets.specs.Check.{u64, open_fault, pick_n}
use Rattle.table_offsets.specs.Faults.{number, fault_number}
use Rattle.check_fragment.proofs.open_fault.Goals as goal

pub returns-then-byte-gt1 : goal.returns-then-byte-gt1
unfolding fault_number number open_fault u64 pick_n
returns-then-byte-gt1 c =
    let match = c.in-2 in
    let byte = c.byte-k in
    simp (sym byte.ensures, match.is, sym c.byte.ensures, lt-ltb _ _ c.if-byte-gt1.true)

pub returns-then-byte : goal.returns-then-byte
unfolding fault_number number open_fault u64 pick_n
returns-then-byte c =
    let match = c.in-3 in
    let byte = c.byte-k in
    simp (sym byte.ensures, match.is, sym c.byte-in-3.ensures, eq-eqb _ _ c.if-byte.true)

pub returns-then-number-eq0 : goal.returns-then-number-eq0
unfolding fault_number number open_fault u64 pick_n
returns-then-number-eq0 c =
    let if2 = c.if-byte in
    let byte3 = c.byte-in-3 in
    let match = c.in-3 in
    let byte = c.byte-k in
    simp (sym byte.ensures, match.is, sym byte3.ensures, ne_eqb _ _ if2.false, sym c.number.ensures.0, eq-eqb _ _ c.if-number-eq0.true)

pub returns-else-byte-gt1 : goal.returns-else-byte-gt1
unfolding fault_number number open_fault u64 pick_n
returns-else-byte-gt1 c =
    let match = c.in-2 in
    let byte = c.byte-k in
    simp (sym byte.ensures, match.is, sym c.byte.ensures, le-ltb _ _ c.if-byte-gt1.false)

pub returns-else-number-eq0 : goal.returns-else-number-eq0
unfolding fault_number number open_fault u64 pick_n
returns-else-number-eq0 c =
    let number = c.number in
    let if2 = c.if-byte in
    let byte3 = c.byte-in-3 in
    let match = c.in-3 in
    let byte = c.byte-k in
    simp (
      sym byte.ensures,
      match.is,
      sym byte3.ensures,
      ne_eqb _ _ if2.false,
      sym number.ensures.0,
      ne_eqb _ _ c.if-number-eq0.false,
      c.many_fault.ensures,
    )

pub returns-in-4 : goal.returns-in-4
unfolding fault_number number open_fault u64 pick_n
returns-in-4 c = simp (sym c.byte-k.ensures, c.in-4.is, c.many_fault-in-4.ensures)

pub returns-in-5 : goal.returns-in-5
unfolding fault_number number open_fault u64 pick_n
returns-in-5 c = simp (sym c.byte-k.ensures, c.in-5.is, c.many_fault-in-5.ensures)

pub returns-in_default : goal.returns-in_default
unfolding fault_number number open_fault u64 pick_n
returns-in_default c =
    let k = c.byte-k.result in
    simp (
      sym c.byte-k.ensures,
      ne_eqb k 2 (omega arith),
      ne_eqb k 3 (omega arith),
      ne_eqb k 4 (omega arith),
      ne_eqb k 5 (omega arith),
    )
