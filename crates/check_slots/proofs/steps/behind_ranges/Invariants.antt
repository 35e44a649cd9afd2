use Rattle.std.proofs.Common.{◌≡◌, ◌-◌}
use Rattle.check_slots.specs.Homes.{behind_ranges}
use Rattle.check_slots.proofs.steps.behind_ranges.Given as goal

abbrev pub invariant-loop : goal.invariant-loop
invariant-loop l = behind_ranges l.table l.at l.count ≡ behind_ranges l.table l.next (l.count - l.counter)
