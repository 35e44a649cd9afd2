-- Two bytes, low one first.
use Rattle.std.proofs.Common.{arith}
use Rattle.table_bytes.proofs.Eight.{two}
use Rattle.table_bytes.proofs.u16_at.Goals as goal

pub returns : goal.returns
returns c = let e = two c.args.table.now c.args.at c.requires in (omega arith, omega arith)
