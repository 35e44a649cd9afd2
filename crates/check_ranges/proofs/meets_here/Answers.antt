-- Both tests of the definition, in its order.
use Rattle.std.proofs.Common.{sym, le-leb}
use borrow.Author.Tests.{lt-leb}
use Rattle.table_offsets.specs.Check.{u64, low_at, high_at, meets_here}
use Rattle.check_ranges.proofs.meets_here.Goals as goal

pub returns-then-key-low : goal.returns-then-key-low
unfolding meets_here high_at low_at u64
returns-then-key-low c = simp (sym c.number.ensures.0, sym c.key.ensures, lt-leb _ _ c.if-key-low.true)

pub returns : goal.returns
unfolding meets_here high_at low_at u64
returns c =
    let if1 = c.if-key-low in
    let key' = c.key in
    let number = c.number in
    let number2 = c.number-2 in
    simp (sym number.ensures.0, sym key'.ensures, le-leb _ _ if1.false, sym number2.ensures.0, sym c.key-2.ensures)
