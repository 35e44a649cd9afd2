-- By whether they are elements.
use mathlib.Core.Path.{sym, ◌∙◌}
use Rattle.field_runs.proofs.Cases.{alone-elements, alone-members}
use Rattle.field_runs.proofs.alone.Goals as goal

pub returns-then-many : goal.returns-then-many
returns-then-many c = c.elements.ensures ∙ sym (alone-elements _ _ _ _ c.if-many.true)

pub returns : goal.returns
returns c = c.members.ensures ∙ sym (alone-members _ _ _ _ c.if-many.false)
