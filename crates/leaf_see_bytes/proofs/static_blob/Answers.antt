-- By whether the role is the UUID's.
use mathlib.Core.Path.{◌∙◌}
use Rattle.leaf_see_bytes.proofs.Uuid.{role-seen, no-role-seen}
use Rattle.leaf_see_bytes.proofs.static_blob.Goals as goal

pub returns-then-role-eq-UUID : goal.returns-then-role-eq-UUID
returns-then-role-eq-UUID c = c.uuid_blob.ensures ∙ role-seen _ _ _ _ _ _ c.if-role-eq-UUID.true

pub returns : goal.returns
returns c = c.plain.ensures ∙ no-role-seen _ _ _ _ _ _ c.if-role-eq-UUID.false
