-- The bytes are those of the UUID as they are compared.
use mathlib.Core.Path.{◌∙◌}
use Rattle.leaf_see_bytes.proofs.Uuid.{same-part}
use Rattle.leaf_see_bytes.proofs.same.Goals as goal

pub returns : goal.returns
returns c = c.eq.ensures ∙ same-part c.args.stream.now c.args.uuid.now c.args.at c.args.count
