-- The mark says whether there is such a kind, and else is the body's length.
use Rattle.std.specs.Prelude.{Some}
use mathlib.Core.Path.{◌∙◌, ap, sym}
use Rattle.table_offsets.proofs.Rows.{mark-unknown, mark-known}
use Rattle.table_records.proofs.bodies.body_of.Goals as goal

pub returns-then-length : goal.returns-then-length
returns-then-length c = mark-unknown _ (sym c.mark_of-length.ensures ∙ c.if-length.true)

pub returns : goal.returns
returns c = ap Some c.mark_of-length.ensures ∙ mark-known _ (λ e. c.if-length.false (c.mark_of-length.ensures ∙ e))
