-- By the kind, and then by the id, which is there.
use native.Mathlib.Omega.{arith}
use borrow.Author.Tests.{eq-eqb, ne_eqb}
use Rattle.rules.specs.Record.{u8}
use Rattle.class_layout.specs.Fragments.{is_stream, opening_size}
use Rattle.class_layout.proofs.Walked.{opening-there}
use Rattle.class_lookup.proofs.is_stream_class.Goals as goal

pub u64_at-requires : goal.u64_at-requires
unfolding opening_size u8
u64_at-requires c = omega (arith, opening-there 4 c.requires.0 c.if-is_class.true)

pub returns-then-is_class : goal.returns-then-is_class
unfolding is_stream u8
returns-then-is_class c = rw (eq-eqb _ _ c.if-is_class.true, ← c.u64_at.ensures)

pub returns : goal.returns
unfolding is_stream u8
returns c = rw (ne_eqb _ _ c.if-is_class.false)
