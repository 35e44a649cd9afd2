use mathlib.Core.Path.{◌≡◌}
use Prim.Native.Nat.{◌+◌, ◌-◌}
use Rattle.table_offsets.specs.Check.{roots_at}
use Rattle.check_roots.proofs.check_roots.Given as goal

abbrev pub invariant-loop-n : goal.invariant-loop-n
invariant-loop-n l =
    roots_at l.table l.timed l.uuid l.first l.at l.count ≡ roots_at l.table l.timed l.uuid l.n l.next (l.first + l.count - l.n)
