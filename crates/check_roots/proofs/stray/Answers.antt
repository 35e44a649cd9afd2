-- The tests of the definition, in its order.
use mathlib.Core.Path.{sym}
use borrow.Author.Tests.{lt-ltb, le-ltb, le-leb, lt-leb, eq-eqb, ne_eqb}
use Rattle.table_offsets.specs.Check.{stray, pick_n}
use Rattle.table_offsets.specs.Faults.{number, fault_number}
use Rattle.table_offsets.proofs.Told.{first-none, first-told, exit-number}
use Rattle.check_roots.proofs.stray.Goals as goal

pub returns-then-table-at : goal.returns-then-table-at
unfolding stray pick_n fault_number
returns-then-table-at c = simp (le-leb _ _ c.if-table-at.true)

pub returns-then-table-at-ne-ROOT : goal.returns-then-table-at-ne-ROOT
unfolding stray pick_n fault_number
returns-then-table-at-ne-ROOT c = simp (lt-leb _ _ c.if-table-at.false, ne_eqb _ _ c.if-table-at-ne-ROOT.true)

pub returns-in_err-head_fault : goal.returns-in_err-head_fault
unfolding stray pick_n
returns-in_err-head_fault c =
    let here = eq-eqb _ _ c.if-table-at-ne-ROOT.false in
    let bad = first-told c.head_fault.ensures c.in_err-head_fault.was in
    simp (lt-leb _ _ c.if-table-at.false, here, exit-number _ _ c.from_residual.ensures.1, bad)

pub returns-then-byte-lt-ROOTS : goal.returns-then-byte-lt-ROOTS
unfolding stray pick_n fault_number number
returns-then-byte-lt-ROOTS c =
    let here = eq-eqb _ _ c.if-table-at-ne-ROOT.false in
    let whole = first-none c.head_fault.ensures c.in_ok-head_fault.was in
    simp (lt-leb _ _ c.if-table-at.false, here, whole, sym c.byte.ensures, lt-ltb _ _ c.if-byte-lt-ROOTS.true)

pub returns : goal.returns
unfolding stray pick_n fault_number number
returns c =
    let here = eq-eqb _ _ c.if-table-at-ne-ROOT.false in
    let whole = first-none c.head_fault.ensures c.in_ok-head_fault.was in
    simp (lt-leb _ _ c.if-table-at.false, here, whole, sym c.byte.ensures, le-ltb _ _ c.if-byte-lt-ROOTS.false)
