-- The clock after a stamp is the rules': the laws of the wrapped difference, cut.
use Rattle.std.proofs.Common.{◌+◌, ◌-◌, ◌%◌, ◌^◌, arith}
use Rattle.clock.proofs.Wrapped.{ticked-to, ticked-large}
use Rattle.clock.proofs.Clock.after.Goals as goal

pub returns-then-advance-old : goal.returns-then-advance-old
returns-then-advance-old c =
    let old = c.args.self.value in
    let wrapped = (c.args.stamp + (2 ^ 64 - old)) % 2 ^ 64 in
    rw c.cut-advance.ensures (ticked-to old _ _ wrapped (omega arith) (omega arith) c.requires (omega arith) (omega arith))

pub returns-else-advance-old : goal.returns-else-advance-old
returns-else-advance-old c =
    let old = c.args.self.value in
    let wrapped = (c.args.stamp + (2 ^ 64 - old)) % 2 ^ 64 in
    ticked-large old _ _ wrapped (omega arith) (omega arith) c.requires (omega arith) (omega arith)
