-- By the kind of the record.
use native.Mathlib.Omega.{arith}
use mathlib.Core.Path.{sym}
use borrow.Author.Tests.{ne_eqb}
use Rattle.table_offsets.specs.Check.{pick_n}
use Rattle.check_slots.specs.Homes.{part_at}
use Rattle.check_slots.proofs.classes.part_at.Goals as goal

pub returns-in-31 : goal.returns-in-31
unfolding part_at pick_n
returns-in-31 c =
    simp (sym c.byte-k.ensures, c.in-31.is, sym c.byte.ensures, sym c.wide.ensures.0, c.behind_ranges.ensures)

pub returns-in-32 : goal.returns-in-32
unfolding part_at pick_n
returns-in-32 c = simp (sym c.byte-k.ensures, c.in-32.is, c.behind_option.ensures)

pub returns-in_default : goal.returns-in_default
unfolding part_at pick_n
returns-in_default c =
    let k = c.byte-k.result in
    simp (sym c.byte-k.ensures, ne_eqb k 31 (omega arith), ne_eqb k 32 (omega arith))
