-- Numbers below 4 stay, and so does any behind the end, where no fragment stands; else the order decides.
use mathlib.Core.Path.{◌≡◌, ◌∙◌, sym}
use native.Mathlib.Omega.{arith}
use lib.ListN.{length}
use borrow.Author.Tests.{lt-ltb, le-ltb}
use Rattle.table_offsets.specs.Check.{latest, lowest, pick_n}
use Rattle.table_offsets.specs.Faults.{number}
use Rattle.table_offsets.proofs.Searched.{lowest-out}
use Rattle.table_offsets.proofs.Told.{first-none, first-told}
use Rattle.check_fragment.proofs.lowest.Goals as goal

pub returns-then-is_lower : goal.returns-then-is_lower
unfolding lowest pick_n number
returns-then-is_lower c =
    let four : c.number.result ≡ 4 = c.number.ensures in
    simp (lt-ltb c.args.m 4 (omega (arith, four, c.if-is_lower.true)))

pub returns-then-table-at : goal.returns-then-table-at
returns-then-table-at c =
    let args = c.args in
    sym (lowest-out args.table.now args.trace (latest args.seen.now (length args.seen.now)) args.m args.at c.if-table-at.true)

pub order_fault-requires : goal.order_fault-requires
order_fault-requires c = omega (arith, c.requires, c.if-table-at.false)

pub returns-in-Err : goal.returns-in-Err
unfolding lowest pick_n number
returns-in-Err c =
    let four : c.number.result ≡ 4 = c.number.ensures in
    let high = le-ltb c.args.m 4 (omega (arith, four, c.if-is_lower.false)) in
    c.number-in-Err.ensures ∙ sym (simp (high, first-told c.order_fault.ensures c.in-Err.is))

pub returns-in-Ok : goal.returns-in-Ok
unfolding lowest pick_n number
returns-in-Ok c =
    let four : c.number.result ≡ 4 = c.number.ensures in
    simp (le-ltb c.args.m 4 (omega (arith, four, c.if-is_lower.false)), first-none c.order_fault.ensures c.in-Ok.is)
