-- The tests of the definition, in its order, for packet roots and for event roots.
use mathlib.Core.Path.{sym}
use borrow.Author.Tests.{lt-ltb, le-ltb}
use Rattle.table_offsets.specs.Check.{slot_fault, pick_n}
use Rattle.table_offsets.specs.Faults.{number, fault_number}
use Rattle.check_class.proofs.slot_fault.Goals as goal

pub returns-then-past_packet : goal.returns-then-past_packet
unfolding slot_fault pick_n fault_number number
returns-then-past_packet c = simp (lt-ltb _ _ c.if-root-lt-EVENT_HEADER.true, lt-ltb _ _ c.if-past_packet.true)

pub returns-then-within : goal.returns-then-within
unfolding slot_fault pick_n fault_number number
returns-then-within c =
    let if2 = c.if-past_packet in
    let if1 = c.if-root-lt-EVENT_HEADER in
    simp (lt-ltb _ _ if1.true, le-ltb _ _ if2.false, sym c.within.ensures, c.if-within.true)

pub returns-then-root-lt-EVENT_HEADER : goal.returns-then-root-lt-EVENT_HEADER
unfolding slot_fault pick_n fault_number number
returns-then-root-lt-EVENT_HEADER c =
    let if2 = c.if-past_packet in
    let if1 = c.if-root-lt-EVENT_HEADER in
    simp (lt-ltb _ _ if1.true, le-ltb _ _ if2.false, sym c.within.ensures, c.if-within.false)

pub returns-then-reads-gt-LAST_SLOT : goal.returns-then-reads-gt-LAST_SLOT
unfolding slot_fault pick_n fault_number number
returns-then-reads-gt-LAST_SLOT c = simp (le-ltb _ _ c.if-root-lt-EVENT_HEADER.false, lt-ltb _ _ c.if-reads-gt-LAST_SLOT.true)

pub returns-then-sets-lt-FIRST_EVENT_SLOT : goal.returns-then-sets-lt-FIRST_EVENT_SLOT
unfolding slot_fault pick_n fault_number number
returns-then-sets-lt-FIRST_EVENT_SLOT c =
    simp (
      le-ltb _ _ c.if-root-lt-EVENT_HEADER.false,
      le-ltb _ _ c.if-reads-gt-LAST_SLOT.false,
      lt-ltb _ _ c.if-sets-lt-FIRST_EVENT_SLOT.true,
    )

pub returns : goal.returns
unfolding slot_fault pick_n fault_number number
returns c =
    simp (
      le-ltb _ _ c.if-root-lt-EVENT_HEADER.false,
      le-ltb _ _ c.if-reads-gt-LAST_SLOT.false,
      le-ltb _ _ c.if-sets-lt-FIRST_EVENT_SLOT.false,
    )
