-- By whether the first field is an element.
use mathlib.Core.Path.{sym, ◌∙◌}
use Rattle.field_runs.specs.Run.{forgetting}
use Rattle.field_runs.proofs.Cases.{border-element, border-member}
use Rattle.field_runs.proofs.is_border.Goals as goal

pub returns-then-is_element : goal.returns-then-is_element
unfolding forgetting
returns-then-is_element c =
    sym (border-element _ (sym c.is_element.ensures ∙ c.if-is_element.true))

pub returns : goal.returns
returns c = sym (border-member _ (sym c.is_element.ensures ∙ c.if-is_element.false))
