-- With its sign, or as it is.
use mathlib.Core.Path.{sym, ap, ◌∙◌}
use native.Mathlib.Omega.{arith}
use lib.ListN.{set, length-set}
use Prim.Native.Nat.{◌+◌}
use Rattle.screen_number.specs.Number.{blank, decimal, signed_decimal, right}
use Rattle.screen_head.specs.Head.{column}
use Rattle.screen_number.proofs.Laid.{laid, then, shown-as, one_byte}
use Rattle.screen_head.proofs.Columns.{right-room-21, signed-room, column-is, value-signed, value-plain}
use Rattle.screen_head.proofs.put_value.Goals as goal

pub put_signed_right-requires : goal.put_signed_right-requires
put_signed_right-requires c =
    omega (arith, c.requires, length-set c.args.out.now c.args.at blank, signed-room c.args.value)

pub returns-then-has_sign : goal.returns-then-has_sign
returns-then-has_sign c =
    let a = c.args in
    let put = c.put_signed_right in
    let all = shown-as
    (then
    (one_byte a.out.now a.at blank)
    (laid (set a.out.now a.at blank) put.new.out (a.at + 1) put.result (right 21 (signed_decimal a.value))
    (put.ensures.value, put.ensures.out_after)))
    (column-is 21 (signed_decimal a.value) ∙ ap (λ x. column 21 x)
    (value-signed a.kind a.value (sym c.has_sign.ensures
    ∙ c.if-has_sign.true))) in
    record { value = all.end; out_after = all.list }

pub put_right-requires : goal.put_right-requires
put_right-requires c =
    omega (arith, c.requires, length-set c.args.out.now c.args.at blank, right-room-21 c.args.value)

pub returns : goal.returns
returns c =
    let a = c.args in
    let put = c.put_right in
    let all = shown-as
    (then
    (one_byte a.out.now a.at blank)
    (laid (set a.out.now a.at blank) put.new.out (a.at + 1) put.result (right 21 (decimal a.value))
    (put.ensures.value, put.ensures.out_after)))
    (column-is 21 (decimal a.value) ∙ ap (λ x. column 21 x)
    (value-plain a.kind a.value (sym c.has_sign.ensures
    ∙ c.if-has_sign.false))) in
    record { value = all.end; out_after = all.list }
