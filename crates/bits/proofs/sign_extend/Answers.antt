-- `bits::sign_extend` meets its contract: below half of 2 ^ width a number stays, from half on it is below zero.
use Prim.Native.Nat.{◌-◌}
use native.Mathlib.Omega.{arith}
use lib.Pow.{pow_pos}
use Rattle.facts.proofs.Numbers.{one_shl, pow-double}
use Rattle.bits.proofs.Signed.{word_low, word-high}
use Rattle.bits.proofs.sign_extend.Goals as goal

pub overflow_sub-result-else-value-half : goal.overflow_sub-result-else-value-half
overflow_sub-result-else-value-half c = omega (arith, one_shl (c.args.width - 1) (omega arith), pow_pos (c.args.width - 1))

pub overflow_add-result : goal.overflow_add-result
overflow_add-result c =
    let n = c.args.width in
    record { fits = rw (one_shl (n - 1) (omega arith)) (omega (arith, pow-double n (omega arith), pow_pos (n - 1))) }

pub returns-then-value-half : goal.returns-then-value-half
returns-then-value-half c =
    let half = one_shl (c.args.width - 1) (omega arith) in
    word_low _ _ (omega arith)

pub returns-else-value-half : goal.returns-else-value-half
returns-else-value-half c =
    let half = one_shl (c.args.width - 1) (omega arith) in
    rw half (word-high _ _ (omega arith) (omega arith) c.requires.2 (omega arith))
