-- `bits::walk` meets its contract. The loop's invariant: the value is the number of the bits done. Each turn joins the next piece by one
-- law, and what is left of the width falls.
use mathlib.Core.Path.{◌≡◌, sym}
use native.Mathlib.Omega.{arith}
use Rattle.bits.proofs.Laws.{bits-zero, bits_below, bits-join}
use Rattle.bits.proofs.walk.Goals as goal

pub loop-done-init : goal.loop-done-init
loop-done-init c = (omega arith, sym (bits-zero _ _ _))

pub overflow_add-at : goal.overflow_add-at
overflow_add-at c = omega arith

pub overflow_sub-at : goal.overflow_sub-at
overflow_sub-at c = omega arith

pub overflow_sub-width : goal.overflow_sub-width
overflow_sub-width c = omega arith

pub piece-requires : goal.piece-requires
piece-requires c = omega arith

pub join-value-requires : goal.join-value-requires
join-value-requires c =
    let value = c.loop-done.invariant.1 in
    (omega arith, omega arith, omega arith, rw value (bits_below _ _ _ _), rw c.piece.ensures (bits_below _ _ _ _))

pub overflow_add-done : goal.overflow_add-done
overflow_add-done c = omega arith

pub loop-done-smaller : goal.loop-done-smaller
loop-done-smaller c = omega arith

pub loop-done-preserved : goal.loop-done-preserved
loop-done-preserved c =
    let value = c.loop-done.invariant.1 in
    (omega arith, rw c.join-value.ensures (bits-join _ _ _ _ _ value c.piece.ensures))

pub returns : goal.returns
returns c = let all : c.loop-done.done ≡ c.args.width = omega arith in rw (← all) c.loop-done.invariant.1
