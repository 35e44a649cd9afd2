-- By the word below the thirty-second bit, and that above it.
use Rattle.screen_meaning.proofs.Nearest.{exact-near, exact-far, exact-high, exact-not}
use Rattle.screen_meaning.proofs.millionths.is_exact.Goals as goal

pub returns-then-down-le32 : goal.returns-then-down-le32
returns-then-down-le32 c =
    exact-near c.args.m c.args.down c.low.result c.power.result c.if-down-le32.true c.low.ensures
    c.power.ensures

pub returns-then-down-gt94 : goal.returns-then-down-gt94
returns-then-down-gt94 c = exact-far c.args.m c.args.down c.requires c.if-down-gt94.true

pub returns-then-low-eq0 : goal.returns-then-low-eq0
returns-then-low-eq0 c =
    exact-high c.args.m c.args.down c.low-2.result c.high.result c.power-then-low-eq0.result c.if-down-le32.false
    c.low-2.ensures c.if-low-eq0.true c.high.ensures c.power-then-low-eq0.ensures

pub returns : goal.returns
returns c =
    exact-not c.args.m c.args.down c.low-2.result c.if-down-le32.false c.low-2.ensures c.if-low-eq0.false
