-- A trace class's roots are the header.
use mathlib.Core.Path.{sym}
use borrow.Author.Tests.{eq-eqb, ne_eqb}
use Rattle.table_offsets.specs.Check.{pick_n}
use Rattle.check_slots.specs.Homes.{header_with}
use Rattle.check_slots.proofs.header_with.Goals as goal

pub returns-then-byte-eq-TRACE_CLASS : goal.returns-then-byte-eq-TRACE_CLASS
unfolding header_with pick_n
returns-then-byte-eq-TRACE_CLASS c = simp (sym c.byte.ensures, eq-eqb _ _ c.if-byte-eq-TRACE_CLASS.true)

pub returns : goal.returns
unfolding header_with pick_n
returns c = simp (sym c.byte.ensures, ne_eqb _ _ c.if-byte-eq-TRACE_CLASS.false)
