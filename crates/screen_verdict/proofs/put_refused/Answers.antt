-- Where, why, and what was listed.
use native.Mathlib.Omega.{arith}
use Rattle.screen_number.proofs.Laid.{laid, then}
use Rattle.screen_verdict.specs.Sentences.{reason}
use Rattle.screen_verdict.specs.Verdict.{refused_line, refused_at, unit, listed}
use Rattle.screen_verdict.proofs.Sentences.{reason-length}
use Rattle.screen_verdict.proofs.Lines.{refused-length}
use Rattle.screen_verdict.proofs.put_refused.Goals as goal

pub put_reason-b-requires : goal.put_reason-b-requires
put_reason-b-requires c =
    let a = c.args in
    omega (
      arith,
      c.requires,
      c.put_refused_at-a.ensures.value,
      c.put_refused_at-a.auto.out,
      refused-length a.r.number a.r.place,
      reason-length a.r.number a.r.place a.r.first a.r.second,
    )

pub put_listed-requires : goal.put_listed-requires
put_listed-requires c =
    let a = c.args in
    omega (
      arith,
      c.requires,
      c.put_refused_at-a.ensures.value,
      c.put_refused_at-a.auto.out,
      refused-length a.r.number a.r.place,
      c.put_reason-b.ensures.value,
      c.put_reason-b.auto.out,
      reason-length a.r.number a.r.place a.r.first a.r.second,
    )

pub returns : goal.returns
unfolding refused_line
returns c =
    let a = c.args in
    let p1 = c.put_refused_at-a in
    let p2 = c.put_reason-b in
    let p3 = c.put_listed in
    let all = then
    (then
    (laid a.out.now p1.new.out (0) p1.result
    (refused_at a.r.number (unit a.r.number) a.r.place) (p1.ensures.value, p1.ensures.out_after))
    (laid p1.new.out p2.new.out p1.result p2.result
    (reason a.r.number a.r.place a.r.first a.r.second) (p2.ensures.value, p2.ensures.out_after)))
    (laid p2.new.out p3.new.out p2.result p3.result
    (listed a.r.entries) (p3.ensures.value, p3.ensures.out_after)) in
    record { value = all.end; out_after = all.list }
