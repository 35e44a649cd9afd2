-- The sentence, piece by piece.
use native.Mathlib.Omega.{arith}
use Rattle.screen_number.specs.Number.{bytes, decimal}
use Rattle.screen_number.proofs.Decimal.{decimal-length}
use Rattle.screen_number.proofs.Laid.{laid, then}
use Rattle.screen_verdict.specs.Sentences.{no_event_class}
use Rattle.screen_verdict.proofs.reasons.put_no_event_class.Goals as goal

pub put_decimal-b-requires : goal.put_decimal-b-requires
put_decimal-b-requires c =
    let a = c.args in
    omega (
      arith,
      c.requires,
      c.put_bytes-a.ensures.value,
      c.put_bytes-a.auto.out,
      decimal-length a.event,
    )

pub put_bytes-c-requires : goal.put_bytes-c-requires
put_bytes-c-requires c =
    let a = c.args in
    omega (
      arith,
      c.requires,
      c.put_bytes-a.ensures.value,
      c.put_bytes-a.auto.out,
      c.put_decimal-b.ensures.value,
      c.put_decimal-b.auto.out,
      decimal-length a.event,
    )

pub put_decimal-requires : goal.put_decimal-requires
put_decimal-requires c =
    let a = c.args in
    omega (
      arith,
      c.requires,
      c.put_bytes-a.ensures.value,
      c.put_bytes-a.auto.out,
      c.put_decimal-b.ensures.value,
      c.put_decimal-b.auto.out,
      decimal-length a.event,
      c.put_bytes-c.ensures.value,
      c.put_bytes-c.auto.out,
      decimal-length a.stream,
    )

pub returns : goal.returns
unfolding no_event_class bytes
returns c =
    let a = c.args in
    let p1 = c.put_bytes-a in
    let p2 = c.put_decimal-b in
    let p3 = c.put_bytes-c in
    let p4 = c.put_decimal in
    let all = then
    (then
    (then
    (laid a.out.now p1.new.out a.at p1.result
    (bytes "the table has no event class ") (p1.ensures.value, p1.ensures.out_after))
    (laid p1.new.out p2.new.out p1.result p2.result
    (decimal a.event) (p2.ensures.value, p2.ensures.out_after)))
    (laid p2.new.out p3.new.out p2.result p3.result
    (bytes " in stream class ") (p3.ensures.value, p3.ensures.out_after)))
    (laid p3.new.out p4.new.out p3.result p4.result
    (decimal a.stream) (p4.ensures.value, p4.ensures.out_after)) in
    record { value = all.end; out_after = all.list }
