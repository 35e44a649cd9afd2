-- A range a turn: what is left is the definition behind it.
use Rattle.std.proofs.Common.{◌≡◌, ◌+◌, ◌-◌, sym, ◌∙◌, arith}
use Rattle.check_slots.proofs.Onward.{ranges-step, ranges-none}
use Rattle.check_slots.proofs.steps.behind_ranges.Goals as goal

pub loop-preserved : goal.loop-preserved
loop-preserved c =
    let one : c.args.count - c.loop.counter - 1 ≡ c.args.count - (c.loop.counter + 1) = omega arith in
    let on = c.loop.invariant ∙ ranges-step _ _ _ (omega arith) in
    rw one at on ∙ rw c.behind_range-next.ensures

pub returns : goal.returns
returns c = sym (c.loop.invariant ∙ ranges-none _ _ _ (omega arith))
