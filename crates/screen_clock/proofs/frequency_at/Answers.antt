-- Nothing past the table's end.
use native.Mathlib.Omega.{arith}
use Prim.Native.Nat.{◌+◌}
use Rattle.screen_clock.proofs.Walked.{number_past}
use Rattle.screen_clock.proofs.frequency_at.Goals as goal

pub returns-then-table-at : goal.returns-then-table-at
returns-then-table-at c = number_past 8 c.args.table.now (c.args.at + 2) (omega (arith, c.if-table-at.true))

pub returns : goal.returns
returns c = c.number.ensures.0
