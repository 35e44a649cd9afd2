-- The record, field by field.
use mathlib.Core.Path.{refl}
use Rattle.table_offsets.specs.Check.{say}
use Rattle.table_records.proofs.plain.Goals as goal

pub returns : goal.returns
unfolding say
returns c = refl
