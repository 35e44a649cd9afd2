-- The size, then the first record, then a root behind it, then the fragments: each return is the law of how far the check came.
use Rattle.rules.specs.Verdict.{table_fault}
use Rattle.rules.specs.declared.TableFault.{TableFault}
use Rattle.rules.specs.declared.ByteLength.{ByteLength}
use mathlib.Core.Path.{◌≡◌, sym, ◌∙◌}
use Prim.Native.Nat.{ℕ}
use Rattle.std.specs.Prelude.{⊤, Result, Ok, Err}
use Rattle.rules.specs.Place.{byte_length}
use Rattle.table_offsets.specs.Check.{or_refused}
use Rattle.table_offsets.specs.Faults.{number, fault_number}
use Rattle.table_offsets.specs.declared.faults.Fault.{Fault}
use Rattle.table_offsets.proofs.Begun.{refused-zero, refused-some, checked-empty, checked-long, checked-on}
use Rattle.table_offsets.proofs.Told.{number-some, none, told}
use Rattle.check_table.proofs.answer.Goals as goal

-- What a test of the number m answers

module _ {r : Result ⊤ Fault} {m : ℕ} (asked : fault_number r ≡ m) (at : ℕ) (c : Result ByteLength TableFault) where
  stops : {f : Fault} → r ≡ Err f → or_refused m at c ≡ Err (table_fault (number f) (byte_length at))
  stops {f} h = rw (told asked h) (refused-some (number f) at c (number-some f))

  passes : {x : ⊤} → r ≡ Ok x → or_refused m at c ≡ c
  passes h = refused-zero m at c (none asked h)

-- The size

pub returns-then-table-eq0 : goal.returns-then-table-eq0
unfolding number
returns-then-table-eq0 c = c.refused.ensures ∙ sym (checked-empty _ c.if-table-eq0.true)

pub returns-then-too_long : goal.returns-then-too_long
unfolding number
returns-then-too_long c = c.refused-then-too_long.ensures ∙ sym (checked-long _ c.if-table-eq0.false c.if-too_long.true)

-- The first record, and a root behind it

pub returns-in-Err : goal.returns-in-Err
returns-in-Err c =
    let on = checked-on _ c.if-table-eq0.false c.if-too_long.false in
    c.refused-in-Err.ensures ∙ sym (on ∙ stops c.first_fault.ensures _ _ c.in-Err.is)

pub returns-in-Err-stray : goal.returns-in-Err-stray
returns-in-Err-stray c =
    let on = checked-on _ c.if-table-eq0.false c.if-too_long.false in
    c.refused-in-Err-stray.ensures
    ∙ sym (on ∙ passes c.first_fault.ensures _ _ c.in_default.is ∙ stops c.stray.ensures _ _ c.in-Err-stray.is)

-- The fragments

pub returns : goal.returns
returns c =
    let on = checked-on _ c.if-table-eq0.false c.if-too_long.false in
    c.check_fragments.ensures
    ∙ sym (on ∙ passes c.first_fault.ensures _ _ c.in_default.is ∙ passes c.stray.ensures _ _ c.in_default-stray.is)
