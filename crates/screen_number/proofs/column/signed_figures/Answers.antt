-- The digits of a word below 2 to the 63; of any other, a minus sign and those of what it lacks to 2 to the 64.
use mathlib.Core.Path.{ap, ◌∙◌}
use Prim.Native.Nat.{◌-◌, ◌+◌}
use native.Mathlib.Omega.{arith}
use lib.ListN.{length}
use Rattle.screen_number.proofs.Decimal.{decimal-length}
use Rattle.screen_number.proofs.Laid.{signed_low, high-length}
use Rattle.screen_number.proofs.column.signed_figures.Goals as goal

pub returns-then-word-lt9223372036854775808 : goal.returns-then-word-lt9223372036854775808
returns-then-word-lt9223372036854775808 c = c.figures.ensures ∙ ap length (signed_low c.args.word c.if-word-lt9223372036854775808.true)

pub overflow_add-result : goal.overflow_add-result
overflow_add-result c = omega (arith, c.figures-2.ensures, decimal-length (18446744073709551615 - c.args.word + 1))

pub returns : goal.returns
returns c =
    let w = c.args.word in
    omega (arith, c.figures-2.ensures, high-length w c.if-word-lt9223372036854775808.false (omega arith))
