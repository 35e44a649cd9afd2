-- The invariant: the records whose numbers are still to be noted. The measure: the bytes left.
use mathlib.Core.Path.{ap, ◌∙◌}
use native.Mathlib.Omega.{arith}
use Rattle.rules.specs.Record.{u8}
use Rattle.class_layout.specs.Numbers.{number_behind}
use Rattle.class_layout.proofs.Numbers.{next-onward}
use Rattle.class_layout.proofs.Written.{records-start, records-next, records-done}
use Rattle.class_notes.proofs.note_numbers.Goals as goal

pub loop-at-init : goal.loop-at-init
loop-at-init c = records-start

pub bounds-aligns-at : goal.bounds-aligns-at
bounds-aligns-at c = omega (arith, c.loop-at.invariant.size, c.requires.0)

pub with_number-requires : goal.with_number-requires
with_number-requires c = omega (arith, c.loop-at.invariant.few, c.requires.1)

pub next_record-at-requires : goal.next_record-at-requires
next_record-at-requires c = (c.loop-at-test.true, c.requires.1)

pub number_behind-number-requires : goal.number_behind-number-requires
number_behind-number-requires c = omega (arith, c.loop-at.invariant.few, c.requires.1)

pub loop-at-smaller : goal.loop-at-smaller
loop-at-smaller c = omega (arith, c.next_record-at.ensures.0, next-onward c.args.table.now c.loop-at.at)

pub loop-at-preserved : goal.loop-at-preserved
unfolding u8
loop-at-preserved c =
    records-next c.loop-at-test.true c.with_number.ensures c.next_record-at.ensures.0
    (c.number_behind-number.ensures ∙ ap (λ i. number_behind i c.loop-at.number) c.byte.ensures) c.loop-at.invariant

pub returns : goal.returns
returns c = records-done c.loop-at-test.false c.loop-at.invariant
