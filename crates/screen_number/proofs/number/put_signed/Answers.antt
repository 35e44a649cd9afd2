-- A word below 2 to the 63 is its digits; any other, a minus sign and those of what it lacks to 2 to the 64.
use mathlib.Core.Path.{ap, ◌∙◌}
use Prim.Native.Nat.{◌+◌}
use native.Mathlib.Omega.{arith}
use lib.ListN.{length, length-set}
use lib.Seq.{sets}
use Rattle.screen_number.proofs.Laid.{signed_low, high-laid, high-length}
use Rattle.screen_number.proofs.number.put_signed.Goals as goal

pub put_decimal-requires : goal.put_decimal-requires
put_decimal-requires c =
    let a = c.before.before.before in
    let e = ap length (signed_low a.args.word c.if-word-lt9223372036854775808.true) in
    omega (arith, e, a.well_formed)

pub returns-then-word-lt9223372036854775808 : goal.returns-then-word-lt9223372036854775808
returns-then-word-lt9223372036854775808 c =
    let a = c.args in
    let e = signed_low a.word c.if-word-lt9223372036854775808.true in
    record {
      value = c.put_decimal.ensures.value ∙ ap (λ x. a.at + length x) e;
      out_after = c.put_decimal.ensures.out_after ∙ ap (λ x. sets a.out.now a.at x) e;
    }

pub bounds-out-at : goal.bounds-out-at
bounds-out-at c =
    let a = c.before.before in
    omega (arith, high-length a.args.word c.if-word-lt9223372036854775808.false (omega arith), a.well_formed)

pub put_decimal-requires-2 : goal.put_decimal-requires-2
put_decimal-requires-2 c =
    let a = c.before.before.before in
    omega (
      arith,
      high-length a.args.word c.if-word-lt9223372036854775808.false (omega arith),
      a.well_formed,
      length-set a.args.out.now a.args.at
          45,
    )

pub returns : goal.returns
returns c =
    let a = c.args in
    let high = c.if-word-lt9223372036854775808.false in
    record {
      value = omega (arith, c.put_decimal-2.ensures.value, high-length a.word high (omega arith));
      out_after = c.put_decimal-2.ensures.out_after ∙ high-laid a.out.now a.at a.word high (omega arith);
    }
