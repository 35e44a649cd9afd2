-- By the kind, and then by the two ids, which are there.
use native.Mathlib.Omega.{arith}
use borrow.Author.Tests.{eq-eqb, ne_eqb}
use Rattle.rules.specs.Record.{u8}
use Rattle.class_layout.specs.Fragments.{is_event, opening_size}
use Rattle.class_layout.proofs.Walked.{opening-there}
use Rattle.class_lookup.proofs.is_event_class.Goals as goal

pub u64_at-requires : goal.u64_at-requires
unfolding opening_size u8
u64_at-requires c = omega (arith, opening-there 5 c.requires.0 c.if-table-at-eq-EVENT_CLASS.true)

pub u64_at-requires-then-of_stream : goal.u64_at-requires-then-of_stream
unfolding opening_size u8
u64_at-requires-then-of_stream c = omega (arith, opening-there 5 c.requires.0 c.if-table-at-eq-EVENT_CLASS.true)

pub returns-then-of_stream : goal.returns-then-of_stream
unfolding is_event u8
returns-then-of_stream c =
    rw (
      eq-eqb _ _ c.if-table-at-eq-EVENT_CLASS.true,
      ← c.u64_at.ensures,
      ← c.u64_at-then-of_stream.ensures,
      eq-eqb _ _ c.if-of_stream.true,
    )

pub returns-then-table-at-eq-EVENT_CLASS : goal.returns-then-table-at-eq-EVENT_CLASS
unfolding is_event u8
returns-then-table-at-eq-EVENT_CLASS c = rw (eq-eqb _ _ c.if-table-at-eq-EVENT_CLASS.true, ← c.u64_at.ensures, ne_eqb _ _ c.if-of_stream.false)

pub returns : goal.returns
unfolding is_event u8
returns c = rw (ne_eqb _ _ c.if-table-at-eq-EVENT_CLASS.false)
