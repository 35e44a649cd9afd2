-- The product fits 64 bits, its first factor being below 2 to the 31.
use Prim.Native.Nat.{◌+◌, ◌*◌, ◌≤◌}
use native.Mathlib.Omega.{arith}
use native.Mathlib.Nat.{mul-le-mul_right}
use Rattle.class_lookup.specs.Index.{home_of}
use Rattle.class_lookup.proofs.home.Goals as goal

pub overflow_mul-result-2 : goal.overflow_mul-result-2
overflow_mul-result-2 c =
    let x = c.mix-x.result in
    let few : x ≤ 2147483647 = omega (arith, c.mix-x.ensures.1) in
    omega (arith, mul-le-mul_right (2 * x + 1) few)

pub returns : goal.returns
unfolding home_of
returns c = (rw c.mix-x.ensures.0, omega arith)
