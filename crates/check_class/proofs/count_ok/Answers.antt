-- By kind, in the order of the definition.
use native.Mathlib.Omega.{arith}
use borrow.Author.Tests.{le-leb, lt-leb, ne_eqb}
use Rattle.table_offsets.specs.Check.{inside, count_ok, pick_b}
use Rattle.check_class.proofs.count_ok.Goals as goal

pub returns-then-count-lt1 : goal.returns-then-count-lt1
unfolding count_ok pick_b inside
returns-then-count-lt1 c = simp (c.in-32.is, lt-leb _ _ c.if-count-lt1.true)

pub returns-in-28 : goal.returns-in-28
unfolding count_ok pick_b inside
returns-in-28 c = simp c.in-28.is

pub returns-in-31 : goal.returns-in-31
unfolding count_ok pick_b inside
returns-in-31 c = simp c.in-31.is

pub returns-else-count-lt1 : goal.returns-else-count-lt1
unfolding count_ok pick_b inside
returns-else-count-lt1 c = simp (c.in-32.is, le-leb _ _ c.if-count-lt1.false)

pub returns-in_default : goal.returns-in_default
unfolding count_ok pick_b inside
returns-in_default c =
    let k = c.args.kind in
    simp (ne_eqb k 28 (omega arith), ne_eqb k 31 (omega arith), ne_eqb k 32 (omega arith))
