-- The earlier of both walks' answers is the rules' answer, since a slice holds bytes. A table that is too long is refused by 1 at byte 0,
-- which no other answer comes before.
use mathlib.Core.Path.{◌≡◌, sym, ap, ◌∙◌}
use native.Mathlib.Omega.{arith}
use lib.ListN.{length}
use Rattle.rules.specs.Parse.{checked}
use Rattle.table_offsets.specs.Check.{checked_at}
use Rattle.table_offsets.specs.Earlier.{earlier}
use Rattle.table_offsets.proofs.Begun.{checked-long}
use Rattle.table_offsets.proofs.Earlier.{earlier-first}
use Rattle.check_slots.specs.Homes.{first_home_fault}
use Rattle.check_table.proofs.Homes.{check-homes}
use Rattle.check_table.proofs.check.Goals as goal

pub first_home_fault-p-requires : goal.first_home_fault-p-requires
first_home_fault-p-requires c = c.if-table-le-TABLE_LIMIT.true

pub returns-then-table-le-TABLE_LIMIT : goal.returns-then-table-le-TABLE_LIMIT
returns-then-table-le-TABLE_LIMIT c =
    let t = c.args.table.now in
    let bytes = c.shared_slice_known-1.given in
    c.earlier_of.ensures
    ∙ ap (λ r. earlier (length t) r c.first_home_fault-p.result) c.answer-a.ensures
    ∙ ap (earlier (length t) (checked_at t)) c.first_home_fault-p.ensures
    ∙ sym (check-homes t (λ i. omega (arith, bytes i)))

pub returns : goal.returns
returns c =
    let t = c.args.table.now in
    let bytes = c.shared_slice_known-1.given in
    let both = check-homes t (λ i. omega (arith, bytes i)) in
    let long = checked-long t (λ e. omega (arith, c.if-table-le-TABLE_LIMIT.false)) c.if-table-le-TABLE_LIMIT.false in
    let first = earlier-first (length t) (first_home_fault t) 1 (omega arith) in
    c.answer-a.ensures ∙ long ∙ sym (both ∙ ap (λ r. earlier (length t) r (first_home_fault t)) long ∙ first)
