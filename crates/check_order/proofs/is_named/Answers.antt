-- Kind, then id.
use mathlib.Core.Path.{sym}
use borrow.Author.Tests.{eq-eqb, ne_eqb}
use Rattle.table_offsets.specs.Check.{is_named}
use Rattle.check_order.proofs.is_named.Goals as goal

pub returns-then-byte-kind : goal.returns-then-byte-kind
unfolding is_named
returns-then-byte-kind c = simp (sym c.byte.ensures, ne_eqb _ _ c.if-byte-kind.true)

pub returns : goal.returns
unfolding is_named
returns c = simp (sym c.byte.ensures, eq-eqb _ _ c.if-byte-kind.false, sym c.same.ensures)
