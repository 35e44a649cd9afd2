-- Each return is the law of the test that leads to it.
use native.Mathlib.Omega.{arith}
use Rattle.leaf_find_number.proofs.Finds.{bits-past, bits-turned, bits-short, bits_at, aligned-from}
use Rattle.frame.specs.Framed.{aligned_at}
use Rattle.leaf_find_number.proofs.find_bits.Goals as goal

pub returns-then-frame-place : goal.returns-then-frame-place
unfolding aligned_at
returns-then-frame-place c = bits-past _ _ _ _ _ _ _ _ c.align-place.ensures c.if-frame-place.true

-- The order

pub overflow_sub-place : goal.overflow_sub-place
overflow_sub-place c = omega (arith, aligned-from _ _ _ _ c.align-place.ensures)

pub returns-then-turns : goal.returns-then-turns
unfolding aligned_at
returns-then-turns c =
    bits-turned _ _ _ _ _ _ _ _ c.align-place.ensures (omega (arith, c.if-frame-place.false)) _ c.turns.ensures c.if-turns.true

-- The bits

pub returns-then-frame-place-2 : goal.returns-then-frame-place-2
unfolding aligned_at
returns-then-frame-place-2 c =
    bits-short _ _ _ _ _ _ _ _ c.align-place.ensures (omega (arith, c.if-frame-place.false)) _ c.turns.ensures c.if-turns.false
    c.if-frame-place-2.true

pub returns : goal.returns
unfolding aligned_at
returns c =
    rw c.take.ensures
    (bits_at _ _ _ _ _ _ _ _ c.align-place.ensures _ c.turns.ensures c.if-turns.false (omega (arith, c.if-frame-place-2.false)))
