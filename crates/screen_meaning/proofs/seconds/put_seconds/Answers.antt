-- Nothing; or the seconds, a point, nine digits and the unit.
use native.Mathlib.Omega.{arith}
use Prim.Native.Nat.{◌/◌}
use lib.Dec.{lit≤}
use Rattle.screen_number.specs.Number.{bytes, decimal, zeros}
use Rattle.screen_number.proofs.Decimal.{decimal-length}
use Rattle.screen_meaning.proofs.Forms.{laid_none}
use Rattle.screen_meaning.proofs.Turns.{zeros-most, no-seconds, some-seconds}
use Rattle.screen_number.proofs.Laid.{laid, then, shown-as}
use Rattle.screen_meaning.proofs.seconds.put_seconds.Goals as goal

pub returns-then-frequency-eq0 : goal.returns-then-frequency-eq0
returns-then-frequency-eq0 c =
    let all = shown-as
    (laid_none c.args.out.now c.args.at)
    (no-seconds c.args.frequency c.args.clock c.if-frequency-eq0.true) in
    record { value = all.end; out_after = all.list }

pub put_decimal-a-requires : goal.put_decimal-a-requires
put_decimal-a-requires c = omega (arith, c.requires, decimal-length (c.args.clock / c.args.frequency))

pub put_bytes-b-requires : goal.put_bytes-b-requires
put_bytes-b-requires c =
    omega (
      arith,
      c.requires,
      c.put_decimal-a.ensures.value,
      c.put_decimal-a.auto.out,
      decimal-length
          (c.args.clock / c.args.frequency),
    )

pub put_zeros-c-requires : goal.put_zeros-c-requires
put_zeros-c-requires c =
    omega (
      arith,
      c.requires,
      c.put_decimal-a.ensures.value,
      c.put_decimal-a.auto.out,
      decimal-length
          (c.args.clock / c.args.frequency),
      c.put_bytes-b.ensures.value,
      c.put_bytes-b.auto.out,
      zeros-most 9
          c.nanos-cut.result (lit≤ tt),
    )

pub put_bytes-requires : goal.put_bytes-requires
put_bytes-requires c =
    omega (
      arith,
      c.requires,
      c.put_decimal-a.ensures.value,
      c.put_decimal-a.auto.out,
      decimal-length
          (c.args.clock / c.args.frequency),
      c.put_bytes-b.ensures.value,
      c.put_bytes-b.auto.out,
      c.put_zeros-c.ensures.value,
      c.put_zeros-c.auto.out,
      zeros-most 9 c.nanos-cut.result (lit≤ tt),
    )

pub returns : goal.returns
unfolding bytes
returns c =
    let all = shown-as
    (then
    (then
    (then
    (laid c.args.out.now c.put_decimal-a.new.out c.args.at c.put_decimal-a.result
    (decimal (c.args.clock / c.args.frequency)) (c.put_decimal-a.ensures.value, c.put_decimal-a.ensures.out_after))
    (laid c.put_decimal-a.new.out c.put_bytes-b.new.out c.put_decimal-a.result
    c.put_bytes-b.result
    (bytes ".") (c.put_bytes-b.ensures.value, c.put_bytes-b.ensures.out_after)))
    (laid c.put_bytes-b.new.out c.put_zeros-c.new.out c.put_bytes-b.result
    c.put_zeros-c.result
    (zeros 9 c.nanos-cut.result) (c.put_zeros-c.ensures.value, c.put_zeros-c.ensures.out_after)))
    (laid c.put_zeros-c.new.out c.put_bytes.new.out c.put_zeros-c.result
    c.put_bytes.result
    (bytes " s") (c.put_bytes.ensures.value, c.put_bytes.ensures.out_after)))
    (some-seconds c.args.frequency c.args.clock c.nanos-cut.result c.if-frequency-eq0.false c.nanos-cut.ensures) in
    record { value = all.end; out_after = all.list }
