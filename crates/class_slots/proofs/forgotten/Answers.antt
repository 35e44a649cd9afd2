-- What is left of the pass makes of the slots so far what the whole makes of those given.
use native.Mathlib.Omega.{arith}
use Rattle.class_slots.proofs.Rounds.{forgot-start, forgot-found, forgot-passed, forgot-end}
use Rattle.class_slots.proofs.forgotten.Goals as goal
use Rattle.class_slots.proofs.forgotten.Goals.{then-is_slot, else-is_slot}

pub loop-next-init : goal.loop-next-init
loop-next-init c = (c.class_end-end.ensures.1, forgot-start _ _ _ _ c.well_formed.1.1.1.0.1.0.1 c.class_end-end.ensures.0)

pub slot_named-i-requires : goal.slot_named-i-requires
slot_named-i-requires c = omega (arith, c.loop-next.invariant.0 c.loop-next-test.true)

pub behind_record-next-requires : goal.behind_record-next-requires
behind_record-next-requires c = omega (arith, c.loop-next.invariant.0 c.loop-next-test.true)

pub loop-next-smaller : goal.loop-next-smaller
loop-next-smaller c = omega (arith, c.behind_record-next.ensures)

pub loop-next-preserved : goal.loop-next-preserved
loop-next-preserved c =
    let so_far = c.loop-next.invariant.1 in
    let on = c.loop-next-test.true in
    let i = c.slot_named-i.ensures in
    let next = c.behind_record-next.ensures in (
      λ _. c.loop-next.invariant.0 on,
      elim c.if-is_slot.branch [
        | then-is_slot y ↦ forgot-found _ _ _ _ _ _ _ on so_far next i y.if-is_slot.true y.slots-is
        | else-is_slot y ↦ forgot-passed _ _ _ _ _ _ _ on so_far next i y.if-is_slot.false y.slots-is
      ],
    )

pub returns : goal.returns
returns c = forgot-end _ _ _ _ _ _ _ c.loop-next.invariant.1 c.loop-next-test.false
