-- One, or one more than its tenth has.
use Rattle.std.proofs.Common.{◌+◌, ◌/◌, ap, ◌∙◌, arith}
use Rattle.screen_number.proofs.Decimal.{decimal-length}
use Rattle.screen_number.proofs.Laid.{one-length, more-length}
use Rattle.screen_number.proofs.column.+figures.Goals as goal

pub returns-then-n-lt10 : goal.returns-then-n-lt10
returns-then-n-lt10 t c = one-length c.args.n c.if-n-lt10.true

pub overflow_add-result : goal.overflow_add-result
overflow_add-result t c = omega (arith, c.figures.ensures, decimal-length (c.args.n / 10))

pub returns : goal.returns
returns t c = ap (λ k. k + 1) c.figures.ensures ∙ more-length c.args.n c.if-n-lt10.false (omega arith)
