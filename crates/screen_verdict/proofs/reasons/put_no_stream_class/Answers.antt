-- The sentence, piece by piece.
use native.Mathlib.Omega.{arith}
use Rattle.screen_number.specs.Number.{bytes, decimal}
use Rattle.screen_number.proofs.Decimal.{decimal-length}
use Rattle.screen_number.proofs.Laid.{laid, then}
use Rattle.screen_verdict.specs.Sentences.{no_stream_class}
use Rattle.screen_verdict.proofs.reasons.put_no_stream_class.Goals as goal

pub put_decimal-requires : goal.put_decimal-requires
put_decimal-requires c =
    let a = c.args in
    omega (
      arith,
      c.requires,
      c.put_bytes-a.ensures.value,
      c.put_bytes-a.auto.out,
      decimal-length a.id,
    )

pub returns : goal.returns
unfolding no_stream_class bytes
returns c =
    let a = c.args in
    let p1 = c.put_bytes-a in
    let p2 = c.put_decimal in
    let all = then
    (laid a.out.now p1.new.out a.at p1.result
    (bytes "the table has no stream class ") (p1.ensures.value, p1.ensures.out_after))
    (laid p1.new.out p2.new.out p1.result p2.result
    (decimal a.id) (p2.ensures.value, p2.ensures.out_after)) in
    record { value = all.end; out_after = all.list }
