-- A walk that tells no fault ends within the table; one that tells a fault ends above it.
use Rattle.std.proofs.Common.{sym, ap, ◌∙◌, arith}
use Rattle.check_slots.specs.Homes.{fault_of, first_home_fault}
use Rattle.check_slots.proofs.Within.{fault-above, fault-none}
use Rattle.check_slots.proofs.first_home_fault.Goals as goal

pub returns-in-Ok : goal.returns-in-Ok
unfolding first_home_fault
returns-in-Ok c =
    let t = c.args.table.now in
    let r = c.in-Ok.ensures in sym (ap (fault_of t) (sym r.0) ∙ fault-none t c.in-Ok.field-0 (r.1 (omega arith)))

pub returns-in-Err : goal.returns-in-Err
unfolding first_home_fault
returns-in-Err c = let t = c.args.table.now in sym (ap (fault_of t) c.in-Err.ensures.1 ∙ fault-above t c.in-Err.at)
