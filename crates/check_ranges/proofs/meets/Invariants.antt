use Rattle.std.proofs.Common.{◌≡◌, ◌≤◌, length}
use Rattle.table_offsets.specs.Check.{meets_any, latest}
use Rattle.check_ranges.proofs.meets.Given as goal

abbrev pub invariant-loop-i : goal.invariant-loop-i
invariant-loop-i l =
    (l.i ≤ length l.done)
    × (meets_any l.table l.sign l.low l.high (latest l.done (length l.done)) ≡ meets_any l.table l.sign l.low l.high (latest l.done l.i))
