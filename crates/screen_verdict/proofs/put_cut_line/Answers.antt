-- Where, and why; behind it no list.
use native.Mathlib.Omega.{arith}
use Rattle.screen_number.specs.Number.{bytes}
use Rattle.screen_number.proofs.Laid.{laid, then}
use Rattle.screen_verdict.specs.Sentences.{reason}
use Rattle.screen_verdict.specs.Verdict.{cut_refused, refused_at, unit}
use Rattle.screen_verdict.proofs.Sentences.{reason-length}
use Rattle.screen_verdict.proofs.Lines.{refused-length}
use Rattle.screen_verdict.proofs.put_cut_line.Goals as goal

pub put_reason-b-requires : goal.put_reason-b-requires
put_reason-b-requires c =
    let a = c.args in
    omega (
      arith,
      c.requires,
      c.put_refused_at-a.ensures.value,
      c.put_refused_at-a.auto.out,
      refused-length 20 a.byte,
      reason-length 20 a.byte a.number 0,
    )

pub put_bytes-requires : goal.put_bytes-requires
put_bytes-requires c =
    let a = c.args in
    omega (
      arith,
      c.requires,
      c.put_refused_at-a.ensures.value,
      c.put_refused_at-a.auto.out,
      refused-length 20 a.byte,
      c.put_reason-b.ensures.value,
      c.put_reason-b.auto.out,
      reason-length 20 a.byte a.number 0,
    )

pub returns : goal.returns
unfolding cut_refused bytes
returns c =
    let a = c.args in
    let p1 = c.put_refused_at-a in
    let p2 = c.put_reason-b in
    let p3 = c.put_bytes in
    let all = then
    (then
    (laid a.out.now p1.new.out (0) p1.result (refused_at 20 (unit 20) a.byte) (p1.ensures.value, p1.ensures.out_after))
    (laid p1.new.out p2.new.out p1.result p2.result (reason 20 a.byte a.number 0) (p2.ensures.value, p2.ensures.out_after)))
    (laid p2.new.out p3.new.out p2.result p3.result (bytes "\n") (p3.ensures.value, p3.ensures.out_after)) in
    record { value = all.end; out_after = all.list }
