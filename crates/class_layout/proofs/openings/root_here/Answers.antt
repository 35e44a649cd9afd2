-- Test by test, as the definition goes.
use borrow.Author.Tests.{eq-eqb, ne_eqb, le-ltb, lt-ltb}
use Rattle.rules.specs.Record.{u8}
use Rattle.class_layout.specs.Fragments.{root_here}
use Rattle.class_layout.proofs.openings.root_here.Goals as goal

pub returns-then-table-at : goal.returns-then-table-at
unfolding root_here u8
returns-then-table-at c = rw (le-ltb _ _ c.if-table-at.true)

pub returns-then-table-at-eq-ROOT : goal.returns-then-table-at-eq-ROOT
unfolding root_here u8
returns-then-table-at-eq-ROOT c = rw (lt-ltb _ _ c.if-table-at.false, eq-eqb _ _ c.if-table-at-eq-ROOT.true)

pub returns : goal.returns
unfolding root_here u8
returns c = rw (lt-ltb _ _ c.if-table-at.false, ne_eqb _ _ c.if-table-at-eq-ROOT.false)
