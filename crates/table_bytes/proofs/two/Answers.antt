-- Two bytes, each below 256.
use Rattle.std.proofs.Common.{rules}
use Rattle.table_offsets.specs.Check.{u16}
use Rattle.table_bytes.proofs.two.Goals as goal

pub returns : goal.returns
unfolding u16
returns c = search rules
