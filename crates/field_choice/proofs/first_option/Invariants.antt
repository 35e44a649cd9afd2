use Rattle.std.proofs.Common.{◌≡◌, ◌+◌}
use Rattle.rules.specs.Faults.{sign_of}
use Rattle.class_layout.specs.Notes.{end_noted}
use Rattle.field_choice.specs.declared.Choice.TheVariants.{Nothing}
use Rattle.field_choice.proofs.Search.{RangesPassed, OptionsPassed}
use Rattle.field_choice.proofs.first_option.Given as goal

abbrev pub invariant-loop-i : goal.invariant-loop-i
invariant-loop-i l = RangesPassed l.table (sign_of l.sign) l.number (l.next + 2) l.ranges l.i × (l.found ≡ Nothing)

abbrev pub invariant-search : goal.invariant-search
invariant-search l =
    OptionsPassed (end_noted l.sizes) l.table (sign_of l.sign) l.number l.at l.count l.next l.option × (l.found ≡ Nothing)
