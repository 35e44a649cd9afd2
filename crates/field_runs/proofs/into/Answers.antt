-- By the case that the definition takes.
use mathlib.Core.Path.{sym, ◌∙◌}
use Rattle.field_runs.proofs.Cases.{into-elements, into-variant, into-parts}
use Rattle.field_runs.proofs.into.Goals as goal

pub returns-then-elements : goal.returns-then-elements
returns-then-elements c = c.put_off.ensures ∙ sym (into-elements _ _ _ _ _ _ _ c.if-elements.true)

pub returns-then-kind-eq-VARIANT : goal.returns-then-kind-eq-VARIANT
returns-then-kind-eq-VARIANT c = c.put_off-then-kind-eq-VARIANT.ensures ∙ sym (into-variant _ _ _ _ _ _ _ c.if-elements.false c.if-kind-eq-VARIANT.true)

pub returns : goal.returns
returns c = c.opened.ensures ∙ sym (into-parts _ _ _ _ _ _ _ c.if-elements.false c.if-kind-eq-VARIANT.false)
