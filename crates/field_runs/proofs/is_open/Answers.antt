-- By the kind.
use mathlib.Core.Path.{sym, ◌∙◌}
use Rattle.field_runs.proofs.Cases.{open-optional, open_free}
use Rattle.field_runs.proofs.is_open.Goals as goal

pub returns-then-kind-eq-OPTIONAL : goal.returns-then-kind-eq-OPTIONAL
returns-then-kind-eq-OPTIONAL c = sym (open-optional _ _ c.if-kind-eq-OPTIONAL.true)

pub returns : goal.returns
returns c = c.is_free.ensures ∙ sym (open_free _ _ c.if-kind-eq-OPTIONAL.false)
