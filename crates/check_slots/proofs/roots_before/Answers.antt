-- By the kind of the fragment.
use native.Mathlib.Omega.{arith}
use mathlib.Core.Path.{sym}
use borrow.Author.Tests.{ne_eqb}
use Rattle.table_offsets.specs.Check.{pick_n, u64}
use Rattle.check_slots.specs.Homes.{roots_before}
use Rattle.check_slots.proofs.roots_before.Goals as goal

pub returns-in-4 : goal.returns-in-4
unfolding roots_before pick_n u64
returns-in-4 c = simp (sym c.byte-k.ensures, c.in-4.is)

pub returns-in-5 : goal.returns-in-5
unfolding roots_before pick_n u64
returns-in-5 c =
    simp (sym c.byte-k.ensures, c.in-5.is, sym c.number.ensures.0, c.stream_roots.ensures)

pub returns-in_default : goal.returns-in_default
unfolding roots_before pick_n u64
returns-in_default c =
    let k = c.byte-k.result in
    simp (sym c.byte-k.ensures, ne_eqb k 4 (omega arith), ne_eqb k 5 (omega arith))
