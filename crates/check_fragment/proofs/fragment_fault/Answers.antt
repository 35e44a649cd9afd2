-- The first number of the tests, in the order of the definition.
use mathlib.Core.Path.{◌∙◌, sym}
use native.Mathlib.Omega.{arith}
use Rattle.table_offsets.specs.Check.{fragment_fault}
use Rattle.table_offsets.proofs.Sound.{head-fine}
use Rattle.table_offsets.proofs.Told.{none, first-none, first-exit}
use Rattle.check_fragment.proofs.fragment_fault.Goals as goal

pub returns-in_err-head_fault : goal.returns-in_err-head_fault
unfolding fragment_fault
returns-in_err-head_fault c = first-exit c.head_fault.ensures c.in_err-head_fault.was _ c.from_residual.ensures.1 _

pub order_fault-requires : goal.order_fault-requires
order_fault-requires c =
    let h = (head-fine _ _ (none c.head_fault.ensures c.in_ok-head_fault.was)).0 in
    omega (arith, h, c.requires)

pub returns-in_err-order_fault : goal.returns-in_err-order_fault
unfolding fragment_fault
returns-in_err-order_fault c =
    first-exit c.order_fault.ensures c.in_err-order_fault.was _ c.from_residual-in_err-order_fault.ensures.1 _
    ∙ sym (first-none c.head_fault.ensures c.in_ok-head_fault.was _)

pub open_fault-requires : goal.open_fault-requires
open_fault-requires c =
    let h = (head-fine _ _ (none c.head_fault.ensures c.in_ok-head_fault.was)).0 in
    omega (arith, h, c.requires)

pub returns : goal.returns
unfolding fragment_fault
returns c =
    simp (
      first-none c.head_fault.ensures c.in_ok-head_fault.was,
      first-none c.order_fault.ensures c.in_ok-order_fault.was,
      sym c.open_fault.ensures,
    )
