-- Number, unit and place.
use native.Mathlib.Omega.{arith}
use Rattle.screen_number.specs.Number.{bytes, decimal}
use Rattle.screen_number.proofs.Decimal.{decimal-length}
use Rattle.screen_number.proofs.Laid.{laid, then}
use Rattle.screen_verdict.specs.Verdict.{refused_at, unit}
use Rattle.screen_verdict.proofs.Lines.{unit-length}
use Rattle.screen_verdict.proofs.put_refused_at.Goals as goal

pub put_decimal-b-requires : goal.put_decimal-b-requires
put_decimal-b-requires c =
    let a = c.args in
    omega (
      arith,
      c.requires,
      c.put_bytes-a.ensures.value,
      c.put_bytes-a.auto.out,
      decimal-length a.number,
    )

pub put_unit-c-requires : goal.put_unit-c-requires
put_unit-c-requires c =
    let a = c.args in
    omega (
      arith,
      c.requires,
      c.put_bytes-a.ensures.value,
      c.put_bytes-a.auto.out,
      c.put_decimal-b.ensures.value,
      c.put_decimal-b.auto.out,
      decimal-length a.number,
      unit-length a.number,
    )

pub put_decimal-d-requires : goal.put_decimal-d-requires
put_decimal-d-requires c =
    let a = c.args in
    omega (
      arith,
      c.requires,
      c.put_bytes-a.ensures.value,
      c.put_bytes-a.auto.out,
      c.put_decimal-b.ensures.value,
      c.put_decimal-b.auto.out,
      decimal-length a.number,
      c.put_unit-c.ensures.value,
      c.put_unit-c.auto.out,
      unit-length a.number,
      decimal-length a.place,
    )

pub put_bytes-requires : goal.put_bytes-requires
put_bytes-requires c =
    let a = c.args in
    omega (
      arith,
      c.requires,
      c.put_bytes-a.ensures.value,
      c.put_bytes-a.auto.out,
      c.put_decimal-b.ensures.value,
      c.put_decimal-b.auto.out,
      decimal-length a.number,
      c.put_unit-c.ensures.value,
      c.put_unit-c.auto.out,
      unit-length a.number,
      c.put_decimal-d.ensures.value,
      c.put_decimal-d.auto.out,
      decimal-length a.place,
    )

pub returns : goal.returns
unfolding refused_at bytes
returns c =
    let a = c.args in
    let p1 = c.put_bytes-a in
    let p2 = c.put_decimal-b in
    let p3 = c.put_unit-c in
    let p4 = c.put_decimal-d in
    let p5 = c.put_bytes in
    let all = then
    (then
    (then
    (then
    (laid a.out.now p1.new.out (0) p1.result
    (bytes "refused ") (p1.ensures.value, p1.ensures.out_after))
    (laid p1.new.out p2.new.out p1.result p2.result
    (decimal a.number) (p2.ensures.value, p2.ensures.out_after)))
    (laid p2.new.out p3.new.out p2.result p3.result
    (unit a.number) (p3.ensures.value, p3.ensures.out_after)))
    (laid p3.new.out p4.new.out p3.result p4.result
    (decimal a.place) (p4.ensures.value, p4.ensures.out_after)))
    (laid p4.new.out p5.new.out p4.result p5.result
    (bytes ": ") (p5.ensures.value, p5.ensures.out_after)) in
    record { value = all.end; out_after = all.list }
