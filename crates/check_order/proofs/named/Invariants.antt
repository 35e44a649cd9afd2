use mathlib.Core.Path.{◌≡◌}
use Prim.Native.Nat.{◌≤◌}
use lib.ListN.{length}
use Rattle.table_offsets.specs.Check.{named, latest}
use Rattle.check_order.proofs.named.Given as goal

abbrev pub invariant-loop-i : goal.invariant-loop-i
invariant-loop-i l =
    (l.i ≤ length l.seen)
    × (named l.table l.kind l.at l.size (latest l.seen (length l.seen)) ≡ named l.table l.kind l.at l.size (latest l.seen l.i))
