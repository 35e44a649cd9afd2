-- Two cases, as in the rules.
use mathlib.Core.Path.{refl}
use Rattle.rules.specs.Parse.{order_of}
use Rattle.leaf_read.proofs.ByKind.{big-order}
use Rattle.leaf_read.proofs.order_of.Goals as goal

pub returns-in-0 : goal.returns-in-0
unfolding order_of
returns-in-0 c = rw c.in-0.is refl

pub returns-in_default : goal.returns-in_default
returns-in_default c = big-order _ c.in_default.in_default-own.rest.1
