-- The three tests of the definition, in its order.
use Rattle.std.proofs.Common.{sym, le-ltb, lt-ltb, eq-eqb, ne_eqb}
use Rattle.table_offsets.specs.Check.{bounds_fault, pick_n}
use Rattle.table_offsets.specs.Faults.{number, fault_number}
use Rattle.check_ranges.proofs.bounds_fault.Goals as goal

pub returns-then-high-low : goal.returns-then-high-low
unfolding bounds_fault fault_number number pick_n
returns-then-high-low c = simp (lt-ltb _ _ c.if-high-low.true)

pub returns-then-byte-sign : goal.returns-then-byte-sign
unfolding bounds_fault fault_number number pick_n
returns-then-byte-sign c = simp (le-ltb _ _ c.if-high-low.false, sym c.byte.ensures, ne_eqb _ _ c.if-byte-sign.true)

pub returns-then-meets : goal.returns-then-meets
unfolding bounds_fault fault_number number pick_n
returns-then-meets c =
    let if2 = c.if-byte-sign in
    let byte = c.byte in
    let if1 = c.if-high-low in
    simp (le-ltb _ _ if1.false, sym byte.ensures, eq-eqb _ _ if2.false, sym c.meets.ensures, c.if-meets.true)

pub returns : goal.returns
unfolding bounds_fault fault_number number pick_n
returns c =
    let if2 = c.if-byte-sign in
    let byte = c.byte in
    let if1 = c.if-high-low in
    simp (le-ltb _ _ if1.false, sym byte.ensures, eq-eqb _ _ if2.false, sym c.meets.ensures, c.if-meets.false)
