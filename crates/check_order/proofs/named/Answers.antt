-- A turn asks one fragment, the latest first; what is left to ask is the definition of the earlier ones.
use native.Mathlib.Omega.{arith}
use Rattle.table_offsets.proofs.Searched.{named-hit, named-miss, named_none}
use Rattle.check_order.proofs.named.Goals as goal

pub is_named-requires : goal.is_named-requires
is_named-requires c = omega (arith, c.wide32.ensures.1, c.requires)

pub returns-then-is_named : goal.returns-then-is_named
returns-then-is_named c =
    named-hit _ _ _ _ _ _ _ c.loop-i.invariant.1 (omega arith) _ c.wide32.ensures.0 _ c.is_named.ensures c.if-is_named.true

pub loop-i-preserved : goal.loop-i-preserved
loop-i-preserved c =
    let asked = c.is_named.ensures in (
      omega (arith, c.loop-i.invariant.0),
      named-miss _ _ _ _ _ _ _ c.loop-i.invariant.1 (omega arith) _ c.wide32.ensures.0 _ asked c.if-is_named.false,
    )

pub returns : goal.returns
returns c = named_none _ _ _ _ _ _ _ c.loop-i.invariant.1 (omega arith)
