-- The eight products add up to the number.
use Rattle.std.proofs.Common.{arith}
use Rattle.table_bytes.proofs.Eight.{eight}
use Rattle.table_bytes.proofs.u64_at.Goals as goal

pub returns : goal.returns
returns c = omega (arith, eight c.args.table.now c.args.at c.requires)
