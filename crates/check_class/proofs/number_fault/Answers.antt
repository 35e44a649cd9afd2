-- The tests of the definition, in its order: each return is the first that holds.
use mathlib.Core.Path.{sym}
use borrow.Author.Tests.{lt-ltb, le-ltb}
use Rattle.table_offsets.specs.Check.{number_fault, pick_n}
use Rattle.table_offsets.specs.Faults.{number, fault_number}
use Rattle.check_class.proofs.number_fault.Goals as goal

pub returns-then-not-length_ok : goal.returns-then-not-length_ok
unfolding number_fault pick_n fault_number number
returns-then-not-length_ok c =
    simp (sym c.length_ok.ensures, c.if-not-length_ok.true)

pub returns-then-says-gt1 : goal.returns-then-says-gt1
unfolding number_fault pick_n fault_number number
returns-then-says-gt1 c =
    simp (sym c.length_ok.ensures, c.if-not-length_ok.false, lt-ltb _ _ c.if-says-gt1.true)

pub returns-then-align_out : goal.returns-then-align_out
unfolding number_fault pick_n fault_number number
returns-then-align_out c =
    simp (sym c.length_ok.ensures, c.if-not-length_ok.false, le-ltb _ _ c.if-says-gt1.false, lt-ltb _ _ c.if-align_out.true)

pub returns-then-within : goal.returns-then-within
unfolding number_fault pick_n fault_number number
returns-then-within c =
    simp (
      sym c.length_ok.ensures,
      c.if-not-length_ok.false,
      le-ltb _ _ c.if-says-gt1.false,
      le-ltb _ _ c.if-align_out.false,
      sym c.within.ensures,
      c.if-within.true,
    )

pub returns-then-within-2 : goal.returns-then-within-2
unfolding number_fault pick_n fault_number number
returns-then-within-2 c =
    simp (
      sym c.length_ok.ensures,
      c.if-not-length_ok.false,
      le-ltb _ _ c.if-says-gt1.false,
      le-ltb _ _ c.if-align_out.false,
      sym c.within.ensures,
      c.if-within.false,
      sym c.within-2.ensures,
      c.if-within-2.true,
    )

pub returns-then-says-gt-LAST_ROLE : goal.returns-then-says-gt-LAST_ROLE
unfolding number_fault pick_n fault_number number
returns-then-says-gt-LAST_ROLE c =
    simp (
      sym c.length_ok.ensures,
      c.if-not-length_ok.false,
      le-ltb _ _ c.if-says-gt1.false,
      le-ltb _ _ c.if-align_out.false,
      sym c.within.ensures,
      c.if-within.false,
      sym c.within-2.ensures,
      c.if-within-2.false,
      lt-ltb _ _ c.if-says-gt-LAST_ROLE.true,
    )

pub returns-then-not-count_ok : goal.returns-then-not-count_ok
unfolding number_fault pick_n fault_number number
returns-then-not-count_ok c =
    simp (
      sym c.length_ok.ensures,
      c.if-not-length_ok.false,
      le-ltb _ _ c.if-says-gt1.false,
      le-ltb _ _ c.if-align_out.false,
      sym c.within.ensures,
      c.if-within.false,
      sym c.within-2.ensures,
      c.if-within-2.false,
      le-ltb _ _ c.if-says-gt-LAST_ROLE.false,
      sym c.count_ok.ensures,
      c.if-not-count_ok.true,
    )

pub returns : goal.returns
unfolding number_fault pick_n fault_number number
returns c =
    simp (
      sym c.length_ok.ensures,
      c.if-not-length_ok.false,
      le-ltb _ _ c.if-says-gt1.false,
      le-ltb _ _ c.if-align_out.false,
      sym c.within.ensures,
      c.if-within.false,
      sym c.within-2.ensures,
      c.if-within-2.false,
      le-ltb _ _ c.if-says-gt-LAST_ROLE.false,
      sym c.count_ok.ensures,
      c.if-not-count_ok.false,
    )
