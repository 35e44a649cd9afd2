-- A turn asks one range; what is left to ask is the definition at the next.
use Rattle.std.proofs.Common.{◌≡◌, ◌+◌, ◌-◌, sym, ◌∙◌, arith}
use Rattle.table_offsets.specs.Check.{pick_b}
use Rattle.table_offsets.proofs.Searched.{one-step, one_none}
use Rattle.check_ranges.proofs.meets_one.Goals as goal

pub meets_here-requires : goal.meets_here-requires
meets_here-requires c = omega (arith, c.requires)

pub returns-then-meets_here : goal.returns-then-meets_here
unfolding pick_b
returns-then-meets_here c =
    sym (c.loop.invariant.1 ∙ one-step _ _ _ _ _ _ (omega arith) ∙ simp (sym c.meets_here.ensures, c.if-meets_here.true))

pub overflow_add-next : goal.overflow_add-next
overflow_add-next c = omega (arith, c.requires)

pub loop-preserved : goal.loop-preserved
unfolding pick_b
loop-preserved c =
    let one : c.args.n - c.loop.counter - 1 ≡ c.args.n - (c.loop.counter + 1) = omega arith in
    let on = c.loop.invariant.1 ∙ one-step _ _ _ _ _ _ (omega arith) in
    (omega arith, rw one at on ∙ simp (sym c.meets_here.ensures, c.if-meets_here.false))

pub returns : goal.returns
returns c = sym (c.loop.invariant.1 ∙ one_none _ _ _ _ _ _ (omega arith))
