-- Number and byte, the fault, and the line's end.
use mathlib.Core.Path.{ap}
use lib.ListN.{length}
use native.Mathlib.Omega.{arith}
use Rattle.screen_number.specs.Number.{bytes, decimal}
use Rattle.screen_number.proofs.Decimal.{decimal-length}
use Rattle.screen_number.proofs.Laid.{laid, then, shown-as}
use Rattle.screen_verdict.specs.Verdict.{refused_table, refused_at}
use Rattle.screen_verdict.proofs.Sentences.{fault-length}
use Rattle.screen_verdict.proofs.put_refused_table.Goals as goal

pub put_decimal-b-requires : goal.put_decimal-b-requires
put_decimal-b-requires c =
    let a = c.args in
    omega (
      arith,
      c.requires,
      c.put_bytes-a.ensures.value,
      c.put_bytes-a.auto.out,
      decimal-length a.number,
    )

pub put_bytes-c-requires : goal.put_bytes-c-requires
put_bytes-c-requires c =
    let a = c.args in
    omega (
      arith,
      c.requires,
      c.put_bytes-a.ensures.value,
      c.put_bytes-a.auto.out,
      c.put_decimal-b.ensures.value,
      c.put_decimal-b.auto.out,
      decimal-length a.number,
    )

pub put_decimal-d-requires : goal.put_decimal-d-requires
put_decimal-d-requires c =
    let a = c.args in
    omega (
      arith,
      c.requires,
      c.put_bytes-a.ensures.value,
      c.put_bytes-a.auto.out,
      c.put_decimal-b.ensures.value,
      c.put_decimal-b.auto.out,
      decimal-length a.number,
      c.put_bytes-c.ensures.value,
      c.put_bytes-c.auto.out,
      decimal-length a.byte.0,
    )

pub put_bytes-e-requires : goal.put_bytes-e-requires
put_bytes-e-requires c =
    let a = c.args in
    omega (
      arith,
      c.requires,
      c.put_bytes-a.ensures.value,
      c.put_bytes-a.auto.out,
      c.put_decimal-b.ensures.value,
      c.put_decimal-b.auto.out,
      decimal-length a.number,
      c.put_bytes-c.ensures.value,
      c.put_bytes-c.auto.out,
      c.put_decimal-d.ensures.value,
      c.put_decimal-d.auto.out,
      decimal-length a.byte.0,
    )

pub put_bytes-f-requires : goal.put_bytes-f-requires
put_bytes-f-requires c =
    let a = c.args in
    omega (
      arith,
      c.requires,
      c.put_bytes-a.ensures.value,
      c.put_bytes-a.auto.out,
      c.put_decimal-b.ensures.value,
      c.put_decimal-b.auto.out,
      decimal-length a.number,
      c.put_bytes-c.ensures.value,
      c.put_bytes-c.auto.out,
      c.put_decimal-d.ensures.value,
      c.put_decimal-d.auto.out,
      decimal-length a.byte.0,
      c.put_bytes-e.ensures.value,
      c.put_bytes-e.auto.out,
      ap length c.fault.ensures,
      fault-length a.number,
    )

pub put_bytes-requires : goal.put_bytes-requires
put_bytes-requires c =
    let a = c.args in
    omega (
      arith,
      c.requires,
      c.put_bytes-a.ensures.value,
      c.put_bytes-a.auto.out,
      c.put_decimal-b.ensures.value,
      c.put_decimal-b.auto.out,
      decimal-length a.number,
      c.put_bytes-c.ensures.value,
      c.put_bytes-c.auto.out,
      c.put_decimal-d.ensures.value,
      c.put_decimal-d.auto.out,
      decimal-length a.byte.0,
      c.put_bytes-e.ensures.value,
      c.put_bytes-e.auto.out,
      c.put_bytes-f.ensures.value,
      c.put_bytes-f.auto.out,
      ap length c.fault.ensures,
      fault-length a.number,
    )

pub returns : goal.returns
unfolding refused_table refused_at bytes
returns c =
    let a = c.args in
    let p1 = c.put_bytes-a in
    let p2 = c.put_decimal-b in
    let p3 = c.put_bytes-c in
    let p4 = c.put_decimal-d in
    let p5 = c.put_bytes-e in
    let p6 = c.put_bytes-f in
    let p7 = c.put_bytes in
    let all = then
    (then
    (then
    (then
    (then
    (then
    (laid a.out.now p1.new.out (0) p1.result
    (bytes "refused ") (p1.ensures.value, p1.ensures.out_after))
    (laid p1.new.out p2.new.out p1.result p2.result
    (decimal a.number) (p2.ensures.value, p2.ensures.out_after)))
    (laid p2.new.out p3.new.out p2.result p3.result
    (bytes " at byte ") (p3.ensures.value, p3.ensures.out_after)))
    (laid p3.new.out p4.new.out p3.result p4.result
    (decimal a.byte.0) (p4.ensures.value, p4.ensures.out_after)))
    (laid p4.new.out p5.new.out p4.result p5.result
    (bytes ": ") (p5.ensures.value, p5.ensures.out_after)))
    (shown-as (laid p5.new.out p6.new.out p5.result p6.result
    c.fault.result.now (p6.ensures.value, p6.ensures.out_after)) c.fault.ensures))
    (laid p6.new.out p7.new.out p6.result p7.result
    (bytes "\n") (p7.ensures.value, p7.ensures.out_after)) in
    record { value = all.end; out_after = all.list }
