-- By the words above and below the thirty-second bit.
use native.Mathlib.Omega.{arith}
use Prim.Native.Nat.{◌+◌, ◌-◌}
use native.Mathlib.Nat.{div-le_self}
use lib.Pow.{pow_mono}
use Rattle.screen_meaning.proofs.Nearest.{over_zero, near-is, near-room, far_none, middle-is}
use Rattle.screen_meaning.proofs.millionths.millionths.Goals as goal

pub overflow_mul-result : goal.overflow_mul-result
overflow_mul-result c =
    omega (
      arith,
      near-room c.args.m c.args.down c.high.result c.power.result c.if-down-le32.true
          c.high.ensures c.power.ensures c.requires.down_value,
    )

pub overflow_add-result : goal.overflow_add-result
overflow_add-result c =
    omega (arith, c.low.ensures, c.power-half.ensures, pow_mono {i = c.args.down - 1} {j = 31} (omega (arith, c.if-down-le32.true)))

pub overflow_add-result-then-down-le32 : goal.overflow_add-result-then-down-le32
overflow_add-result-then-down-le32 c =
    omega (
      arith,
      near-room c.args.m c.args.down c.high.result c.power.result c.if-down-le32.true
          c.high.ensures c.power.ensures c.requires.down_value,
      div-le_self (c.low.result + c.power-half.result)
          c.power-then-down-le32.result,
      c.low.ensures,
      c.power-half.ensures,
      pow_mono {i = c.args.down - 1} {j = 31}
          (omega (arith, c.if-down-le32.true)),
    )

pub returns-then-down-le32 : goal.returns-then-down-le32
returns-then-down-le32 c =
    near-is c.args.m c.args.down c.high.result c.low.result c.power-half.result
    c.power.result c.power-then-down-le32.result c.requires.m_bound.1 c.if-down-le32.true c.high.ensures c.low.ensures
    c.power-half.ensures c.power.ensures c.power-then-down-le32.ensures

pub returns-then-down-gt94 : goal.returns-then-down-gt94
returns-then-down-gt94 c = far_none c.args.m c.args.down c.requires.m_bound.0 c.if-down-gt94.true

pub overflow_add-result-2 : goal.overflow_add-result-2
overflow_add-result-2 c =
    omega (
      arith,
      c.high-2.ensures,
      over_zero c.args.m,
      c.requires.m_bound.0,
      c.power-half-2.ensures,
      pow_mono {i = c.args.down - 33}
          {j = 61} (omega (arith, c.if-down-gt94.false)),
    )

pub returns : goal.returns
returns c =
    middle-is c.args.m c.args.down c.high-2.result c.power-half-2.result c.power-2.result c.if-down-le32.false
    c.high-2.ensures c.power-half-2.ensures c.power-2.ensures
