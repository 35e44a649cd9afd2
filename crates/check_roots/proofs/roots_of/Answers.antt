-- By kind of the fragment.
use native.Mathlib.Omega.{arith}
use mathlib.Core.Path.{sym}
use borrow.Author.Tests.{ne_eqb}
use Rattle.table_offsets.specs.Check.{roots_of, pick_w}
use Rattle.check_roots.proofs.roots_of.Goals as goal

pub returns-in-2 : goal.returns-in-2
unfolding roots_of pick_w
returns-in-2 c = simp (sym c.byte-k.ensures, c.in-2.is, sym c.byte.ensures, c.check_roots.ensures)

pub returns-in-3 : goal.returns-in-3
unfolding roots_of pick_w
returns-in-3 c = simp (sym c.byte-k.ensures, c.in-3.is, c.check_roots-in-3.ensures)

pub returns-in-4 : goal.returns-in-4
unfolding roots_of pick_w
returns-in-4 c = simp (sym c.byte-k.ensures, c.in-4.is, sym c.byte-in-4.ensures, c.check_roots-in-4.ensures)

pub returns-in_default : goal.returns-in_default
unfolding roots_of pick_w
returns-in_default c =
    let k = c.byte-k.result in
    simp (
      sym c.byte-k.ensures,
      ne_eqb k 2 (omega arith),
      ne_eqb k 3 (omega arith),
      ne_eqb k 4 (omega arith),
      c.check_roots-in_default.ensures,
    )
