-- By role, in the order of the definition.
use mathlib.Core.Path.{sym}
use native.Mathlib.Omega.{arith}
use borrow.Author.Tests.{eq-eqb, ne_eqb}
use Rattle.table_offsets.specs.Check.{role_ok, number_ok, pick_b}
use Rattle.check_class.proofs.roles.role_ok.Goals as goal

pub returns-then-says-eq-STATIC_BLOB : goal.returns-then-says-eq-STATIC_BLOB
unfolding role_ok number_ok pick_b
returns-then-says-eq-STATIC_BLOB c = simp (eq-eqb _ _ c.if-says-eq-STATIC_BLOB.true, sym c.blob_ok.ensures)

pub returns-in-0 : goal.returns-in-0
unfolding role_ok number_ok pick_b
returns-in-0 c = simp (ne_eqb _ _ c.if-says-eq-STATIC_BLOB.false, c.in-0.is)

pub returns-in-1 : goal.returns-in-1
unfolding role_ok number_ok pick_b
returns-in-1 c = simp (ne_eqb _ _ c.if-says-eq-STATIC_BLOB.false, c.in-1.is, sym c.magic_ok.ensures)

pub returns-in-2 : goal.returns-in-2
unfolding role_ok number_ok pick_b
returns-in-2 c = simp (ne_eqb _ _ c.if-says-eq-STATIC_BLOB.false, c.in-2.is)

pub returns-in-3 : goal.returns-in-3
unfolding role_ok number_ok pick_b
returns-in-3 c = simp (ne_eqb _ _ c.if-says-eq-STATIC_BLOB.false, c.in-3.is)

pub returns-in-5 : goal.returns-in-5
unfolding role_ok number_ok pick_b
returns-in-5 c = simp (ne_eqb _ _ c.if-says-eq-STATIC_BLOB.false, c.in-5.is)

pub returns-in-6 : goal.returns-in-6
unfolding role_ok number_ok pick_b
returns-in-6 c = simp (ne_eqb _ _ c.if-says-eq-STATIC_BLOB.false, c.in-6.is)

pub returns-in-7 : goal.returns-in-7
unfolding role_ok number_ok pick_b
returns-in-7 c = simp (ne_eqb _ _ c.if-says-eq-STATIC_BLOB.false, c.in-7.is, sym c.clock_ok.ensures)

pub returns-in-8 : goal.returns-in-8
unfolding role_ok number_ok pick_b
returns-in-8 c = simp (ne_eqb _ _ c.if-says-eq-STATIC_BLOB.false, c.in-8.is, sym c.end_ok.ensures)

pub returns-in-9 : goal.returns-in-9
unfolding role_ok number_ok pick_b
returns-in-9 c = simp (ne_eqb _ _ c.if-says-eq-STATIC_BLOB.false, c.in-9.is)

pub returns-in-10 : goal.returns-in-10
unfolding role_ok number_ok pick_b
returns-in-10 c = simp (ne_eqb _ _ c.if-says-eq-STATIC_BLOB.false, c.in-10.is)

pub returns-in-11 : goal.returns-in-11
unfolding role_ok number_ok pick_b
returns-in-11 c = simp (ne_eqb _ _ c.if-says-eq-STATIC_BLOB.false, c.in-11.is)

pub returns-in_default : goal.returns-in_default
unfolding role_ok number_ok pick_b
returns-in_default c =
    let r = c.args.says.role in
    simp (
      ne_eqb _ _ c.if-says-eq-STATIC_BLOB.false,
      ne_eqb r 0 (omega arith),
      ne_eqb r 1 (omega arith),
      ne_eqb r 2 (omega arith),
      ne_eqb r 3 (omega arith),
      ne_eqb r 5 (omega arith),
      ne_eqb r 6 (omega arith),
      ne_eqb r 7 (omega arith),
      ne_eqb r 8 (omega arith),
      ne_eqb r 9 (omega arith),
      ne_eqb r 10 (omega arith),
      ne_eqb r 11 (omega arith),
    )
