-- The three tests of the definition, in its order.
use mathlib.Core.Path.{sym, ◌∙◌}
use borrow.Author.Tests.{eq-eqb, ne_eqb}
use Rattle.table_offsets.specs.Check.{root_here}
use Rattle.table_offsets.proofs.Sound.{head-fine}
use Rattle.table_offsets.proofs.Told.{ok-zero, err-some}
use Rattle.check_roots.proofs.root_here.Goals as goal

pub returns-then-is_err : goal.returns-then-is_err
unfolding root_here
returns-then-is_err c = simp (sym c.head_fault.ensures, ne_eqb _ _ (err-some _ c.if-is_err.ensures.negation))

pub bounds-table-at : goal.bounds-table-at
bounds-table-at c = (head-fine _ _ (sym c.head_fault.ensures ∙ ok-zero _ c.if-is_err.ensures.negation)).0

pub returns-then-table-at-ne-ROOT : goal.returns-then-table-at-ne-ROOT
unfolding root_here
returns-then-table-at-ne-ROOT c =
    let whole = eq-eqb _ _ (ok-zero _ c.if-is_err.ensures.negation) in
    simp (sym c.head_fault.ensures, whole, ne_eqb _ _ c.if-table-at-ne-ROOT.true)

pub returns : goal.returns
unfolding root_here
returns c =
    let whole = eq-eqb _ _ (ok-zero _ c.if-is_err.ensures.negation) in
    simp (sym c.head_fault.ensures, whole, eq-eqb _ _ c.if-table-at-ne-ROOT.false, sym c.byte.ensures)
