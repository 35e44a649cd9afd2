-- Mark, sign, decimals.
use native.Mathlib.Omega.{arith}
use Rattle.screen_meaning.specs.Float.{sign}
use Rattle.screen_meaning.specs.Float.{mark, six_decimals, marked}
use Rattle.screen_meaning.proofs.Forms.{sign-length}
use Rattle.screen_meaning.proofs.Forms.{mark-length}
use Rattle.screen_number.proofs.Laid.{laid, then}
use Rattle.screen_meaning.proofs.float.put_marked.Goals as goal

pub put_sign-b-requires : goal.put_sign-b-requires
put_sign-b-requires c =
    omega (
      arith,
      c.requires,
      c.put_mark-a.ensures.value,
      c.put_mark-a.auto.out,
      mark-length c.args.exactly,
      sign-length
          c.args.negative,
    )

pub put_six-requires : goal.put_six-requires
put_six-requires c =
    omega (
      arith,
      c.requires,
      c.put_mark-a.ensures.value,
      c.put_mark-a.auto.out,
      mark-length c.args.exactly,
      c.put_sign-b.ensures.value,
      c.put_sign-b.auto.out,
      sign-length c.args.negative,
    )

pub returns : goal.returns
unfolding marked
returns c =
    let all = then
    (then
    (laid c.args.out.now c.put_mark-a.new.out c.args.at c.put_mark-a.result
    (mark c.args.exactly) (c.put_mark-a.ensures.value, c.put_mark-a.ensures.out_after))
    (laid c.put_mark-a.new.out c.put_sign-b.new.out c.put_mark-a.result c.put_sign-b.result
    (sign c.args.negative) (c.put_sign-b.ensures.value, c.put_sign-b.ensures.out_after)))
    (laid c.put_sign-b.new.out c.put_six.new.out c.put_sign-b.result c.put_six.result
    (six_decimals c.args.q) (c.put_six.ensures.value, c.put_six.ensures.out_after)) in
    record { value = all.end; out_after = all.list }
