-- Always, or by a product.
use mathlib.Core.Path.{ap, ◌∙◌}
use Prim.Native.Nat.{◌*◌}
use lib.Dec.{ltb}
use Rattle.screen_meaning.proofs.Nearest.{below-far, below-near}
use Rattle.screen_meaning.proofs.millionths.below_down.Goals as goal

pub returns-then-down-ge14 : goal.returns-then-down-ge14
returns-then-down-ge14 c = below-far c.args.m c.args.down c.requires c.if-down-ge14.true

pub returns : goal.returns
returns c = ap (λ k. ltb c.args.m (1000000000000 * k)) c.power.ensures ∙ below-near c.args.m c.args.down
