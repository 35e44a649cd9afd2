-- The sentence, piece by piece.
use mathlib.Core.Path.{ap}
use lib.ListN.{length}
use native.Mathlib.Omega.{arith}
use Rattle.screen_number.specs.Number.{bytes, decimal}
use Rattle.screen_number.proofs.Decimal.{decimal-length}
use Rattle.screen_number.proofs.Laid.{laid, then, shown-as}
use Rattle.screen_verdict.specs.Sentences.{table_refused}
use Rattle.screen_verdict.proofs.Sentences.{fault-length}
use Rattle.screen_verdict.proofs.reasons.put_table_refused.Goals as goal

pub put_decimal-b-requires : goal.put_decimal-b-requires
put_decimal-b-requires c =
    let a = c.args in
    omega (
      arith,
      c.requires,
      c.put_bytes-a.ensures.value,
      c.put_bytes-a.auto.out,
      decimal-length a.number,
    )

pub put_bytes-c-requires : goal.put_bytes-c-requires
put_bytes-c-requires c =
    let a = c.args in
    omega (
      arith,
      c.requires,
      c.put_bytes-a.ensures.value,
      c.put_bytes-a.auto.out,
      c.put_decimal-b.ensures.value,
      c.put_decimal-b.auto.out,
      decimal-length a.number,
    )

pub put_bytes-requires : goal.put_bytes-requires
put_bytes-requires c =
    let a = c.args in
    omega (
      arith,
      c.requires,
      c.put_bytes-a.ensures.value,
      c.put_bytes-a.auto.out,
      c.put_decimal-b.ensures.value,
      c.put_decimal-b.auto.out,
      decimal-length a.number,
      c.put_bytes-c.ensures.value,
      c.put_bytes-c.auto.out,
      ap length c.fault.ensures,
      fault-length a.number,
    )

pub returns : goal.returns
unfolding table_refused bytes
returns c =
    let a = c.args in
    let p1 = c.put_bytes-a in
    let p2 = c.put_decimal-b in
    let p3 = c.put_bytes-c in
    let p4 = c.put_bytes in
    let all = then
    (then
    (then
    (laid a.out.now p1.new.out a.at p1.result
    (bytes "the table is refused by ") (p1.ensures.value, p1.ensures.out_after))
    (laid p1.new.out p2.new.out p1.result p2.result
    (decimal a.number) (p2.ensures.value, p2.ensures.out_after)))
    (laid p2.new.out p3.new.out p2.result p3.result
    (bytes ": ") (p3.ensures.value, p3.ensures.out_after)))
    (shown-as (laid p3.new.out p4.new.out p3.result p4.result
    c.fault.result.now (p4.ensures.value, p4.ensures.out_after)) c.fault.ensures) in
    record { value = all.end; out_after = all.list }
