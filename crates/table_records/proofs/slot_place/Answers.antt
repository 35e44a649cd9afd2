-- By kind, in the order of the definition.
use native.Mathlib.Omega.{arith}
use borrow.Author.Tests.{ne_eqb}
use Rattle.rules.specs.Faults.{pick}
use Rattle.table_records.specs.Named.{slot_place}
use Rattle.table_records.proofs.slot_place.Goals as goal

pub returns-in-17 : goal.returns-in-17
unfolding slot_place pick
returns-in-17 c = (rw c.in-17.is, omega arith)

pub returns-in-18 : goal.returns-in-18
unfolding slot_place pick
returns-in-18 c = (rw c.in-18.is, omega arith)

pub returns-in-19 : goal.returns-in-19
unfolding slot_place pick
returns-in-19 c = (rw c.in-19.is, omega arith)

pub returns-in-21 : goal.returns-in-21
unfolding slot_place pick
returns-in-21 c = (rw c.in-21.is, omega arith)

pub returns-in-22 : goal.returns-in-22
unfolding slot_place pick
returns-in-22 c = (rw c.in-22.is, omega arith)

pub returns-in_default : goal.returns-in_default
unfolding slot_place pick
returns-in_default c =
    let k = c.args.kind in (
      simp (
        ne_eqb k 17 (omega arith),
        ne_eqb k 18 (omega arith),
        ne_eqb k 19 (omega arith),
        ne_eqb k 21 (omega arith),
        ne_eqb k 22 (omega arith),
      ),
      omega arith,
    )
