-- A float by its two lengths, any other kind by the range.
use mathlib.Core.Path.{sym}
use native.Mathlib.Omega.{arith}
use borrow.Author.Tests.{eq-eqb, ne_eqb}
use Rattle.table_offsets.specs.Check.{length_ok, pick_b}
use Rattle.check_class.proofs.length_ok.Goals as goal

pub returns-in-32 : goal.returns-in-32
unfolding length_ok pick_b
returns-in-32 c = simp (eq-eqb _ _ c.if-kind-eq-FLOAT.true, c.in-32.is)

pub returns-in-64 : goal.returns-in-64
unfolding length_ok pick_b
returns-in-64 c = simp (eq-eqb _ _ c.if-kind-eq-FLOAT.true, c.in-64.is)

pub returns-in_default : goal.returns-in_default
unfolding length_ok pick_b
returns-in_default c =
    simp (
      eq-eqb _ _ c.if-kind-eq-FLOAT.true,
      ne_eqb c.args.length 32 (omega arith),
      ne_eqb c.args.length 64 (omega arith),
    )

pub returns-else-kind-eq-FLOAT : goal.returns-else-kind-eq-FLOAT
unfolding length_ok pick_b
returns-else-kind-eq-FLOAT c = simp (ne_eqb _ _ c.if-kind-eq-FLOAT.false, sym c.within.ensures)
