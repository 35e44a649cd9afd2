-- The bytes from the last: v is the number of those from i on, and below 256 to the power of how many they are.
use mathlib.Core.Path.{◌≡◌, sym}
use Prim.Native.Nat.{◌-◌}
use native.Mathlib.Omega.{arith}
use Rattle.table_bytes.proofs.LittleEndian.{number_step, number-none, power-step, power-most}
use Rattle.table_bytes.proofs.number.Goals as goal

pub loop-i-init : goal.loop-i-init
loop-i-init c =
    let n = c.args.n in
    (omega arith, (sym (number-none _ _ _), let e : n - n ≡ 0 = omega arith in rw e (omega arith)))

pub overflow_mul-v : goal.overflow_mul-v
overflow_mul-v c = omega (arith, power-most (c.args.n - c.loop-i.i) (omega arith))

pub overflow_add-v : goal.overflow_add-v
overflow_add-v c = omega (arith, power-most (c.args.n - c.loop-i.i) (omega arith))

pub loop-i-preserved : goal.loop-i-preserved
loop-i-preserved c =
    let loop = c.loop-i in
    let args = c.args in
    let i = loop.i in
    let n = args.n in
    let step = number_step args.table.now args.at i n c.loop-i-test.true loop.invariant.0 in (
      omega arith,
      (
        rw (step, ← loop.invariant.1.0, ← c.byte.ensures) (omega arith),
        rw (power-step i n c.loop-i-test.true loop.invariant.0) (omega arith),
      ),
    )
