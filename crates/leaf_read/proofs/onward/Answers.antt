-- The same class again, or the one behind it.
use mathlib.Core.Path.{refl}
use Rattle.class_layout.specs.Fields.{onward}
use Rattle.leaf_read.proofs.onward.Goals as goal

pub returns-then-again : goal.returns-then-again
unfolding onward
returns-then-again c = rw c.if-again.true refl

pub returns : goal.returns
unfolding onward
returns c = rw (c.if-again.false, c.size_at.ensures.0) refl
