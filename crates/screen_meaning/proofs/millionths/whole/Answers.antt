-- No number but 0, or by a product.
use native.Mathlib.Omega.{arith}
use Rattle.screen_meaning.proofs.Nearest.{whole-none, whole-some, whole_room}
use Rattle.screen_meaning.proofs.millionths.whole.Goals as goal

pub returns-then-up-ge40 : goal.returns-then-up-ge40
returns-then-up-ge40 c = whole-none c.args.m c.args.up c.if-up-ge40.true c.requires

pub overflow_mul-result : goal.overflow_mul-result
overflow_mul-result c = omega (arith, whole_room c.args.m c.args.up c.power.result c.power.ensures c.requires)

pub overflow_mul-result-2 : goal.overflow_mul-result-2
overflow_mul-result-2 c =
    omega (arith, whole_room c.args.m c.args.up c.power.result c.power.ensures c.requires)

pub returns : goal.returns
returns c = whole-some c.args.m c.args.up c.power.result c.power.ensures
