use Rattle.std.proofs.Common.{◌≡◌, ◌+◌, ◌-◌, ◌*◌}
use Rattle.table_offsets.specs.Check.{meets_one}
use Rattle.check_ranges.proofs.meets_one.Given as goal

abbrev pub invariant-loop : goal.invariant-loop
invariant-loop l =
    (l.next + 18 * (l.n - l.counter) ≡ l.at + 18 * l.n)
    × (meets_one l.table l.sign l.low l.high l.at l.n ≡ meets_one l.table l.sign l.low l.high l.next (l.n - l.counter))
