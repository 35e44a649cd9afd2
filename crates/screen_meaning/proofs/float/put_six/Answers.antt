-- Whole, a point, six digits.
use native.Mathlib.Omega.{arith}
use Prim.Native.Nat.{◌/◌, ◌%◌}
use lib.Dec.{lit≤}
use Rattle.screen_number.specs.Number.{bytes, decimal, zeros}
use Rattle.screen_number.proofs.Decimal.{decimal-length}
use Rattle.screen_meaning.specs.Float.{six_decimals}
use Rattle.screen_meaning.proofs.Turns.{zeros-most}
use Rattle.screen_number.proofs.Laid.{laid, then}
use Rattle.screen_meaning.proofs.float.put_six.Goals as goal

pub put_decimal-a-requires : goal.put_decimal-a-requires
put_decimal-a-requires c = omega (arith, c.requires, decimal-length (c.args.q / 1000000))

pub put_bytes-b-requires : goal.put_bytes-b-requires
put_bytes-b-requires c =
    omega (
      arith,
      c.requires,
      c.put_decimal-a.ensures.value,
      c.put_decimal-a.auto.out,
      decimal-length
          (c.args.q / 1000000),
    )

pub put_zeros-requires : goal.put_zeros-requires
put_zeros-requires c =
    omega (
      arith,
      c.requires,
      c.put_decimal-a.ensures.value,
      c.put_decimal-a.auto.out,
      decimal-length
          (c.args.q / 1000000),
      c.put_bytes-b.ensures.value,
      c.put_bytes-b.auto.out,
      zeros-most 6 (c.args.q % 1000000)
          (lit≤ tt),
    )

pub returns : goal.returns
unfolding six_decimals bytes
returns c =
    let all = then
    (then
    (laid c.args.out.now c.put_decimal-a.new.out c.args.at c.put_decimal-a.result
    (decimal (c.args.q / 1000000)) (c.put_decimal-a.ensures.value, c.put_decimal-a.ensures.out_after))
    (laid c.put_decimal-a.new.out c.put_bytes-b.new.out c.put_decimal-a.result
    c.put_bytes-b.result
    (bytes ".") (c.put_bytes-b.ensures.value, c.put_bytes-b.ensures.out_after)))
    (laid c.put_bytes-b.new.out c.put_zeros.new.out c.put_bytes-b.result
    c.put_zeros.result
    (zeros 6 (c.args.q % 1000000)) (c.put_zeros.ensures.value, c.put_zeros.ensures.out_after)) in
    record { value = all.end; out_after = all.list }
