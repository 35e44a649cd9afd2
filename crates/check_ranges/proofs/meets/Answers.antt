-- A turn asks one option, the latest first; what is left to ask is the definition of the earlier ones.
use Rattle.std.proofs.Common.{arith}
use Rattle.table_offsets.proofs.Searched.{any-hit, any-miss, any_none}
use Rattle.check_ranges.proofs.meets.Goals as goal

pub meets_option-requires : goal.meets_option-requires
meets_option-requires c = omega (arith, c.wide32.ensures.1)

pub returns-then-meets_option : goal.returns-then-meets_option
returns-then-meets_option c =
    any-hit _ _ _ _ _ _ _ c.loop-i.invariant.1 (omega arith) _ c.wide32.ensures.0 _ c.meets_option.ensures c.if-meets_option.true

pub loop-i-preserved : goal.loop-i-preserved
loop-i-preserved c =
    let asked = c.meets_option.ensures in (
      omega (arith, c.loop-i.invariant.0),
      any-miss _ _ _ _ _ _ _ c.loop-i.invariant.1 (omega arith) _ c.wide32.ensures.0 _ asked c.if-meets_option.false,
    )

pub returns : goal.returns
returns c = any_none _ _ _ _ _ _ _ c.loop-i.invariant.1 (omega arith)
