use mathlib.Core.Bool.{false}
use mathlib.Core.List.{[]}
use mathlib.Core.Path.{◌≡◌}
use Prim.Native.Nat.{◌-◌, ◌≤◌}
use lib.ListN.{length}
use Rattle.table_offsets.specs.Check.{fragments_at, latest}
use Rattle.check_table.proofs.check_fragments.Given as goal

abbrev pub invariant-loop-next : goal.invariant-loop-next
invariant-loop-next l =
    (l.n ≤ 512)
    × ((length l.seen ≡ 513)
    × (fragments_at (length l.table - l.at) l.table false [] l.at
    ≡ fragments_at (length l.table - l.next) l.table l.trace (latest l.seen l.n) l.next))

abbrev pub decreases-loop-next : goal.decreases-loop-next
decreases-loop-next l = length l.table - l.next
