-- The sentence, piece by piece.
use native.Mathlib.Omega.{arith}
use Rattle.screen_number.specs.Number.{bytes, decimal}
use Rattle.screen_number.proofs.Decimal.{decimal-length}
use Rattle.screen_number.proofs.Laid.{laid, then}
use Rattle.screen_verdict.specs.Sentences.{bound_crossed}
use Rattle.screen_verdict.proofs.reasons.put_bound_crossed.Goals as goal

pub put_decimal-requires : goal.put_decimal-requires
put_decimal-requires c =
    let a = c.args in
    omega (
      arith,
      c.requires,
      c.put_bytes-a.ensures.value,
      c.put_bytes-a.auto.out,
      decimal-length a.bound,
    )

pub returns : goal.returns
unfolding bound_crossed bytes
returns c =
    let a = c.args in
    let p1 = c.put_bytes-a in
    let p2 = c.put_decimal in
    let all = then
    (laid a.out.now p1.new.out a.at p1.result
    (bytes "the field behind the last entry crosses the bound at bit ") (p1.ensures.value, p1.ensures.out_after))
    (laid p1.new.out p2.new.out p1.result p2.result
    (decimal a.bound) (p2.ensures.value, p2.ensures.out_after)) in
    record { value = all.end; out_after = all.list }
