-- Plain bytes in front change nothing: behind them is the end, a zero byte, or the rest of the text.
use native.Mathlib.Omega.{arith}
use Rattle.text.proofs.Plain.{lent-few, lent-plain, lent-ended, lent-fits, lent-cut, lent-before}
use Rattle.text.proofs.told.Goals as goal

pub overflow_add-plain : goal.overflow_add-plain
overflow_add-plain c =
    record { fits = omega (arith, lent-few _ _ _ c.requires c.plain_eights-eights.ensures.0 c.plain_from.ensures) }

pub returns-then-plain-count : goal.returns-then-plain-count
returns-then-plain-count c =
    lent-plain _ _ _ c.requires c.plain_eights-eights.ensures.0 c.plain_from.ensures c.if-plain-count.true

pub bounds-bytes-plain : goal.bounds-bytes-plain
bounds-bytes-plain c = omega (arith, lent-few _ _ _ c.requires c.plain_eights-eights.ensures.0 c.plain_from.ensures)

pub returns-then-is_zero : goal.returns-then-is_zero
returns-then-is_zero c =
    let few = lent-few _ _ _ c.requires c.plain_eights-eights.ensures.0 c.plain_from.ensures in
    lent-ended _ _ _ c.requires c.plain_eights-eights.ensures.0 c.plain_from.ensures (omega arith) c.if-is_zero.true

pub overflow_add-counted : goal.overflow_add-counted
overflow_add-counted c =
    let eights = c.plain_eights-eights.ensures.0 in
    record { fits = omega (arith, lent-fits _ _ _ c.requires eights c.plain_from.ensures c.text_from-rest.ensures) }

pub slice_bounds-formed-end : goal.slice_bounds-formed-end
slice_bounds-formed-end c =
    lent-cut _ _ _ c.requires c.plain_eights-eights.ensures.0 c.plain_from.ensures c.text_from-rest.ensures

pub returns : goal.returns
returns c =
    let eights = c.plain_eights-eights.ensures.0 in
    lent-before _ _ _ c.requires eights c.plain_from.ensures c.text_from-rest.ensures c.formed-is_formed.ensures
