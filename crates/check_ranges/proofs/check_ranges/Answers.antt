-- A turn walks one range; what is left to walk is the definition at the next.
use Rattle.std.proofs.Common.{◌≡◌, ◌+◌, ◌-◌, sym, ◌∙◌, arith}
use Rattle.table_offsets.specs.Faults.{walk}
use Rattle.table_offsets.proofs.Sound.{range-fine}
use Rattle.table_offsets.proofs.Told.{none, else-none, else-told}
use Rattle.table_offsets.proofs.Walked.{ranges-step, ranges-none}
use Rattle.check_ranges.proofs.check_ranges.Goals as goal

pub returns-in-Err : goal.returns-in-Err
unfolding walk
returns-in-Err c =
    sym (c.loop.invariant ∙ ranges-step _ _ _ _ _ (omega arith) ∙ else-told c.range_fault.ensures c.in-Err.is _ _)

pub overflow_add-next : goal.overflow_add-next
overflow_add-next c = omega (arith, range-fine _ _ _ _ (none c.range_fault.ensures c.in_default.is))

pub loop-preserved : goal.loop-preserved
loop-preserved c =
    let one : c.args.count - c.loop.counter - 1 ≡ c.args.count - (c.loop.counter + 1) = omega arith in
    let on = c.loop.invariant ∙ ranges-step _ _ _ _ _ (omega arith) ∙ else-none c.range_fault.ensures c.in_default.is _ _ in
    rw one at on

pub returns : goal.returns
unfolding walk
returns c = sym (c.loop.invariant ∙ ranges-none _ _ _ _ _ (omega arith))
