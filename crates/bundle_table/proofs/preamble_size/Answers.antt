-- The shorter of two bytes and the table.
use native.Mathlib.Omega.{arith}
use lib.ListN.{length-take}
use Rattle.bundle_table.proofs.preamble_size.Goals as goal

pub returns : goal.returns
returns c = omega (arith, c.min.ensures, length-take 2 c.args.table.now)
