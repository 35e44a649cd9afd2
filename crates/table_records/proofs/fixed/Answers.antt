-- The record, field by field.
use mathlib.Core.Path.{sym}
use Rattle.table_offsets.specs.Check.{bits_say}
use Rattle.table_records.proofs.fixed.Goals as goal

pub returns : goal.returns
unfolding bits_say
returns c = simp (sym c.byte.ensures, sym c.byte-2.ensures, sym c.byte-3.ensures)
