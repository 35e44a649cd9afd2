-- The three tests of the definition, in its order.
use mathlib.Core.Path.{sym}
use borrow.Author.Tests.{le-leb, lt-leb, eq-eqb, ne_eqb}
use Rattle.table_offsets.specs.Check.{head_fault, pick_n}
use Rattle.table_offsets.specs.Faults.{number, fault_number}
use Rattle.table_records.proofs.head_fault.Goals as goal

pub returns-then-table-at : goal.returns-then-table-at
unfolding head_fault fault_number number pick_n
returns-then-table-at c = simp (le-leb _ _ c.if-table-at.true)

pub returns-then-b : goal.returns-then-b
unfolding head_fault fault_number number pick_n
returns-then-b c = simp (lt-leb _ _ c.if-table-at.false, sym c.mark_of-b.ensures, eq-eqb _ _ c.if-b.true)

pub returns-then-table-at-2 : goal.returns-then-table-at-2
unfolding head_fault fault_number number pick_n
returns-then-table-at-2 c =
    let if2 = c.if-b in
    let mark_of = c.mark_of-b in
    let if1 = c.if-table-at in
    let body = rw c.wide.ensures.0 at c.if-table-at-2.true in
    simp (lt-leb _ _ if1.false, sym mark_of.ensures, ne_eqb _ _ if2.false, le-leb _ _ body)

pub returns : goal.returns
unfolding head_fault fault_number number pick_n
returns c =
    let if2 = c.if-b in
    let mark_of = c.mark_of-b in
    let if1 = c.if-table-at in
    let body = rw c.wide.ensures.0 at c.if-table-at-2.false in
    simp (lt-leb _ _ if1.false, sym mark_of.ensures, ne_eqb _ _ if2.false, lt-leb _ _ body)
