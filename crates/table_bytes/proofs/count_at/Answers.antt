-- A byte is its own count.
use Rattle.std.proofs.Common.{rules}
use Rattle.rules.specs.Record.{u8}
use Rattle.table_bytes.proofs.count_at.Goals as goal

pub returns : goal.returns
unfolding u8
returns c = search rules
