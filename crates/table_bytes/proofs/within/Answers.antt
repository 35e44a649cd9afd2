-- Both tests of the definition.
use Rattle.std.proofs.Common.{arith}
use Rattle.std.proofs.lemmas.Grind.{common_steps}
use Rattle.table_offsets.specs.Check.{inside}
use Rattle.table_bytes.proofs.within.Goals as goal

pub returns : goal.returns
unfolding inside
returns c = grind (arith, common_steps)
