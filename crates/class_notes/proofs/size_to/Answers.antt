-- By whether the end lies past the table.
use borrow.Author.Tests.{le-leb, lt-leb}
use Rattle.class_layout.specs.Notes.{size_to}
use Rattle.class_notes.proofs.size_to.Goals as goal

pub returns-then-table-next : goal.returns-then-table-next
unfolding size_to
returns-then-table-next c = rw (lt-leb _ _ c.if-table-next.true, size_to)

pub returns : goal.returns
unfolding size_to
returns c = rw (le-leb _ _ c.if-table-next.false, size_to)
