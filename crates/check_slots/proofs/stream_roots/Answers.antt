-- A turn compares one id, the latest first.
use Rattle.std.proofs.Common.{sym, ◌∙◌, arith}
use Rattle.table_offsets.specs.Check.{u64}
use Rattle.check_slots.proofs.Onward.{stream-none, stream-hit, stream-miss}
use Rattle.check_slots.proofs.stream_roots.Goals as goal

pub returns-then-number-id : goal.returns-then-number-id
unfolding u64
returns-then-number-id c =
    let o = c.wide32-o.ensures.0 in
    sym (c.loop-i.invariant.1 ∙ stream-hit _ _ _ _ (omega arith) _ o _ c.number.ensures.0 c.if-number-id.true)

pub loop-i-preserved : goal.loop-i-preserved
unfolding u64
loop-i-preserved c =
    let o = c.wide32-o.ensures.0 in (
      omega (arith, c.loop-i.invariant.0),
      c.loop-i.invariant.1 ∙ stream-miss _ _ _ _ (omega arith) _ o _ c.number.ensures.0 c.if-number-id.false,
    )

pub returns : goal.returns
returns c = sym (c.loop-i.invariant.1 ∙ stream-none _ _ _ _ (omega arith))
