-- The five bytes, and the number behind them.
use native.Mathlib.Omega.{arith}
use Rattle.screen_number.specs.Number.{bytes, decimal}
use Rattle.screen_number.proofs.Decimal.{decimal-length}
use Rattle.screen_number.proofs.Laid.{laid, then}
use Rattle.screen_head.specs.Kinds.{kind_number}
use Rattle.screen_head.proofs.kinds.put_kind_number.Goals as goal

pub put_decimal-requires : goal.put_decimal-requires
put_decimal-requires c =
    omega (
      arith,
      c.requires,
      c.put_bytes-end.ensures.value,
      c.put_bytes-end.auto.out,
      decimal-length
          c.args.kind,
    )

pub returns : goal.returns
unfolding kind_number bytes
returns c =
    let a = c.args in
    let word = c.put_bytes-end in
    let number = c.put_decimal in
    let all = then
    (laid a.out.now word.new.out a.at word.result (bytes "kind-") (word.ensures.value, word.ensures.out_after))
    (laid word.new.out number.new.out word.result number.result (decimal a.kind) (number.ensures.value, number.ensures.out_after)) in
    record { value = all.end; out_after = all.list }
