-- A structure behind a root, any class elsewhere.
use mathlib.Core.Path.{sym}
use borrow.Author.Tests.{eq-eqb, ne_eqb}
use Rattle.table_offsets.specs.Check.{kind_fault, pick_n}
use Rattle.table_offsets.specs.Faults.{number, fault_number}
use Rattle.check_class.proofs.kind_fault.Goals as goal

pub returns-then-k-eq-STRUCTURE : goal.returns-then-k-eq-STRUCTURE
unfolding kind_fault pick_n fault_number number
returns-then-k-eq-STRUCTURE c = simp (eq-eqb _ _ c.if-at-start.true, eq-eqb _ _ c.if-k-eq-STRUCTURE.true)

pub returns-then-at-start : goal.returns-then-at-start
unfolding kind_fault pick_n fault_number number
returns-then-at-start c = simp (eq-eqb _ _ c.if-at-start.true, ne_eqb _ _ c.if-k-eq-STRUCTURE.false)

pub returns-then-within : goal.returns-then-within
unfolding kind_fault pick_n fault_number number
returns-then-within c = simp (ne_eqb _ _ c.if-at-start.false, sym c.within.ensures, c.if-within.true)

pub returns : goal.returns
unfolding kind_fault pick_n fault_number number
returns c = simp (ne_eqb _ _ c.if-at-start.false, sym c.within.ensures, c.if-within.false)
