-- `leb128::first_nine` meets its contract. The loop's invariant: so many bytes are passed. Each turn is one law of the next byte.
use mathlib.Core.Path.{◌≡◌}
use native.Mathlib.Omega.{arith}
use Rattle.leb128.specs.FirstNine.{NineSay}
use Rattle.leb128.proofs.FirstNine.{passed_none, passed-short, passed-end, passed_on, more-fits}
use Rattle.leb128.proofs.first_nine.Goals as goal

pub loop-passed-init : goal.loop-passed-init
loop-passed-init c = passed_none _

pub returns-then-bytes-passed : goal.returns-then-bytes-passed
unfolding NineSay
returns-then-bytes-passed c = passed-short c.loop-passed.invariant c.if-bytes-passed.true

pub overflow_add-value : goal.overflow_add-value
overflow_add-value c = record { fits = more-fits c.loop-passed.invariant _ (omega arith) }

pub returns-then-byte-lt128 : goal.returns-then-byte-lt128
unfolding NineSay
returns-then-byte-lt128 c =
    passed-end c.loop-passed.invariant _ (omega arith) c.if-bytes-passed.false c.from-byte.ensures c.if-byte-lt128.true

pub loop-passed-preserved : goal.loop-passed-preserved
loop-passed-preserved c =
    passed_on c.loop-passed.invariant _ (omega arith) c.if-bytes-passed.false c.from-byte.ensures c.if-byte-lt128.false

pub returns : goal.returns
unfolding NineSay
returns c = let nine : c.loop-passed.passed ≡ 9 = omega arith in rw nine at c.loop-passed.invariant
