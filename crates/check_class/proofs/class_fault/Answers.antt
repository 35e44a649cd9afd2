-- The first number of the tests, in the order of the definition. A record that is whole and of a class kind can be read.
use mathlib.Core.Path.{sym}
use native.Mathlib.Omega.{arith}
use borrow.Author.Tests.{eq-eqb, ne_eqb}
use Rattle.table_offsets.specs.Check.{class_fault, say_fault, pick_n}
use Rattle.table_offsets.specs.Faults.{number, fault_number}
use Rattle.table_offsets.proofs.Sound.{head-fine, kind-fine}
use Rattle.table_offsets.proofs.Told.{none, first-none, first-told, exit-number}
use Rattle.check_class.proofs.class_fault.Goals as goal

-- The record's head

pub returns-in_err-head_fault : goal.returns-in_err-head_fault
unfolding class_fault
returns-in_err-head_fault c =
    simp (exit-number _ _ c.from_residual.ensures.1, first-told c.head_fault.ensures c.in_err-head_fault.was)

-- Number 9

pub bounds-table-at : goal.bounds-table-at
bounds-table-at c = (head-fine _ _ (none c.head_fault.ensures c.in_ok-head_fault.was)).0

pub returns-in_err-kind_fault : goal.returns-in_err-kind_fault
unfolding class_fault
returns-in_err-kind_fault c =
    simp (
      first-none c.head_fault.ensures c.in_ok-head_fault.was,
      exit-number _ _ c.from_residual-in_err-kind_fault.ensures.1,
      first-told c.kind_fault.ensures c.in_err-kind_fault.was,
    )

-- Number 10

pub record_says-y-requires : goal.record_says-y-requires
record_says-y-requires c =
    let h = (head-fine _ _ (none c.head_fault.ensures c.in_ok-head_fault.was)).0 in
    (omega (arith, h), kind-fine _ _ _ (none c.kind_fault.ensures c.in_ok-kind_fault.was))

pub returns-in_err-number_fault : goal.returns-in_err-number_fault
unfolding class_fault say_fault
returns-in_err-number_fault c =
    simp (
      first-none c.head_fault.ensures c.in_ok-head_fault.was,
      first-none c.kind_fault.ensures c.in_ok-kind_fault.was,
      sym c.record_says-y.ensures,
      exit-number _ _ c.from_residual-in_err-number_fault.ensures.1,
      first-told c.number_fault.ensures c.in_err-number_fault.was,
    )

-- Number 11

pub returns-in_err-slot_fault : goal.returns-in_err-slot_fault
unfolding class_fault say_fault
returns-in_err-slot_fault c =
    simp (
      first-none c.head_fault.ensures c.in_ok-head_fault.was,
      first-none c.kind_fault.ensures c.in_ok-kind_fault.was,
      sym c.record_says-y.ensures,
      first-none c.number_fault.ensures c.in_ok-number_fault.was,
      exit-number _ _ c.from_residual-in_err-slot_fault.ensures.1,
      first-told c.slot_fault.ensures c.in_err-slot_fault.was,
    )

-- Number 12

pub returns-then-not-role_ok : goal.returns-then-not-role_ok
unfolding class_fault say_fault pick_n fault_number number
returns-then-not-role_ok c =
    simp (
      first-none c.head_fault.ensures c.in_ok-head_fault.was,
      first-none c.kind_fault.ensures c.in_ok-kind_fault.was,
      sym c.record_says-y.ensures,
      first-none c.number_fault.ensures c.in_ok-number_fault.was,
      first-none c.slot_fault.ensures c.in_ok-slot_fault.was,
      sym c.role_ok.ensures,
      c.if-not-role_ok.true,
    )

-- Number 14

pub returns-then-too_deep : goal.returns-then-too_deep
unfolding class_fault say_fault pick_n fault_number number
returns-then-too_deep c =
    simp (
      first-none c.head_fault.ensures c.in_ok-head_fault.was,
      first-none c.kind_fault.ensures c.in_ok-kind_fault.was,
      sym c.record_says-y.ensures,
      first-none c.number_fault.ensures c.in_ok-number_fault.was,
      first-none c.slot_fault.ensures c.in_ok-slot_fault.was,
      sym c.role_ok.ensures,
      c.if-not-role_ok.false,
      eq-eqb _ _ c.if-too_deep.true,
    )

pub returns : goal.returns
unfolding class_fault say_fault pick_n fault_number number
returns c =
    simp (
      first-none c.head_fault.ensures c.in_ok-head_fault.was,
      first-none c.kind_fault.ensures c.in_ok-kind_fault.was,
      sym c.record_says-y.ensures,
      first-none c.number_fault.ensures c.in_ok-number_fault.was,
      first-none c.slot_fault.ensures c.in_ok-slot_fault.was,
      sym c.role_ok.ensures,
      c.if-not-role_ok.false,
      ne_eqb _ _ c.if-too_deep.false,
    )
