-- A whole record, and its kind.
use mathlib.Core.Path.{sym}
use borrow.Author.Tests.{eq-eqb, ne_eqb}
use Rattle.check_slots.specs.Homes.{is_among}
use Rattle.table_offsets.proofs.Told.{ok-zero, err-some}
use Rattle.check_slots.proofs.steps.is_among.Goals as goal

pub returns-then-is_err : goal.returns-then-is_err
unfolding is_among
returns-then-is_err c = simp (sym c.head_fault.ensures, ne_eqb _ _ (err-some _ c.if-is_err.ensures.negation))

pub returns : goal.returns
unfolding is_among
returns c =
    let whole = eq-eqb _ _ (ok-zero _ c.if-is_err.ensures.negation) in
    simp (sym c.head_fault.ensures, whole, sym c.byte.ensures, sym c.within.ensures)
