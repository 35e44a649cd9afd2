-- By whether the record opens a fragment.
use borrow.Author.Tests.{lt-ltb, le-ltb}
use Rattle.class_layout.specs.Numbers.{opens_fragment, number_behind}
use Rattle.class_notes.proofs.number_behind.Goals as goal

pub returns-then-opens : goal.returns-then-opens
unfolding number_behind opens_fragment
returns-then-opens c = rw (lt-ltb _ _ c.if-opens.true, opens_fragment, number_behind)

pub returns : goal.returns
unfolding number_behind opens_fragment
returns c = rw (le-ltb _ _ c.if-opens.false, opens_fragment, number_behind)
