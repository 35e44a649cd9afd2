-- A byte of 20, a bit of any other.
use Rattle.screen_number.specs.Number.{bytes}
use Rattle.screen_number.proofs.Laid.{same_text}
use Rattle.screen_verdict.specs.Verdict.{unit}
use Rattle.screen_verdict.proofs.Lines.{unit-byte, unit-bit}
use Rattle.screen_verdict.proofs.put_unit.Goals as goal

pub returns-then-number-eq-TABLE_REFUSED : goal.returns-then-number-eq-TABLE_REFUSED
unfolding bytes
returns-then-number-eq-TABLE_REFUSED c =
    let a = c.args in
    let put = c.put_bytes in
    let all = same_text a.out.now put.new.out a.at put.result (bytes " at byte ") (unit a.number)
    (unit-byte a.number c.if-number-eq-TABLE_REFUSED.true) (put.ensures.value, put.ensures.out_after) in
    record { value = all.0; out_after = all.1 }

pub returns : goal.returns
unfolding bytes
returns c =
    let a = c.args in
    let put = c.put_bytes-2 in
    let all = same_text a.out.now put.new.out a.at put.result (bytes " at bit ") (unit a.number)
    (unit-bit a.number c.if-number-eq-TABLE_REFUSED.false) (put.ensures.value, put.ensures.out_after) in
    record { value = all.0; out_after = all.1 }
