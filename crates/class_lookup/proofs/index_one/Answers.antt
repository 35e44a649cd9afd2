-- By the kind; the ids of an event class are there.
use native.Mathlib.Omega.{arith}
use Rattle.rules.specs.Record.{u8}
use Rattle.class_layout.specs.Fragments.{opening_size}
use Rattle.class_layout.proofs.Walked.{opening-there}
use Rattle.class_lookup.proofs.Index.{index-event, index-other}
use Rattle.class_lookup.proofs.index_one.Goals as goal

pub u64_at-requires : goal.u64_at-requires
unfolding opening_size u8
u64_at-requires c = omega (arith, opening-there 5 c.requires.0 c.if-table-at-eq-EVENT_CLASS.true)

pub u64_at-requires-then-table-at-eq-EVENT_CLASS : goal.u64_at-requires-then-table-at-eq-EVENT_CLASS
unfolding opening_size u8
u64_at-requires-then-table-at-eq-EVENT_CLASS c = omega (arith, opening-there 5 c.requires.0 c.if-table-at-eq-EVENT_CLASS.true)

pub returns-then-table-at-eq-EVENT_CLASS : goal.returns-then-table-at-eq-EVENT_CLASS
unfolding u8
returns-then-table-at-eq-EVENT_CLASS c =
    index-event _ _ _ c.if-table-at-eq-EVENT_CLASS.true c.u64_at.ensures c.u64_at-then-table-at-eq-EVENT_CLASS.ensures c.home.ensures.0
    c.put.ensures

pub returns-else-table-at-eq-EVENT_CLASS : goal.returns-else-table-at-eq-EVENT_CLASS
unfolding u8
returns-else-table-at-eq-EVENT_CLASS c = index-other _ _ _ c.if-table-at-eq-EVENT_CLASS.false
