-- By the fraction.
use native.Mathlib.Omega.{arith}
use Rattle.screen_number.specs.Number.{bytes}
use Rattle.screen_meaning.specs.Float.{sign}
use Rattle.screen_meaning.proofs.Forms.{sign-length}
use Rattle.screen_meaning.proofs.Forms.{special-inf, special-nan}
use Rattle.screen_number.proofs.Laid.{laid, then, shown-as}
use Rattle.screen_meaning.proofs.float.put_special.Goals as goal

pub put_bytes-requires : goal.put_bytes-requires
put_bytes-requires c =
    omega (arith, c.requires, c.put_sign-end.ensures.value, c.put_sign-end.auto.out, sign-length c.args.negative)

pub returns-then-fraction-eq0 : goal.returns-then-fraction-eq0
unfolding bytes
returns-then-fraction-eq0 c =
    let all = shown-as
    (then
    (laid c.args.out.now c.put_sign-end.new.out c.args.at c.put_sign-end.result
    (sign c.args.negative) (c.put_sign-end.ensures.value, c.put_sign-end.ensures.out_after))
    (laid c.put_sign-end.new.out c.put_bytes.new.out c.put_sign-end.result
    c.put_bytes.result
    (bytes "inf") (c.put_bytes.ensures.value, c.put_bytes.ensures.out_after)))
    (special-inf c.args.negative c.args.fraction c.if-fraction-eq0.true) in
    record { value = all.end; out_after = all.list }

pub returns : goal.returns
unfolding bytes
returns c =
    let all = shown-as
    (laid c.args.out.now c.put_bytes-2.new.out c.args.at c.put_bytes-2.result
    (bytes "nan") (c.put_bytes-2.ensures.value, c.put_bytes-2.ensures.out_after))
    (special-nan c.args.negative c.args.fraction c.if-fraction-eq0.false) in
    record { value = all.end; out_after = all.list }
