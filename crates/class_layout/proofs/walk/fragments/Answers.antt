-- The first stands behind the preamble.
use Rattle.class_layout.proofs.Walked.{walk-start, preamble-first}
use Rattle.class_layout.proofs.walk.fragments.Goals as goal

pub invariant_of-result : goal.invariant_of-result
invariant_of-result c = walk-start c.requires

pub returns : goal.returns
returns c = preamble-first c.args.table.now
