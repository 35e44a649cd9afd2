use Rattle.std.proofs.Common.{◌≡◌, ◌-◌, length}
use Rattle.table_offsets.specs.Check.{ranges_at, latest}
use Rattle.check_ranges.proofs.check_ranges.Given as goal

abbrev pub invariant-loop : goal.invariant-loop
invariant-loop l =
    let done = latest l.done (length l.done) in
    ranges_at l.table l.first done l.at l.count ≡ ranges_at l.table l.first done l.next (l.count - l.counter)
