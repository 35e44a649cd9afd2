-- Down, or up.
use native.Mathlib.Omega.{arith}
use Prim.Native.Nat.{◌-◌}
use Rattle.screen_number.specs.Number.{bytes, decimal}
use Rattle.screen_number.proofs.Decimal.{decimal-length}
use Rattle.screen_meaning.proofs.Forms.{power-down, power-up}
use Rattle.screen_number.proofs.Laid.{laid, then, shown-as}
use Rattle.screen_meaning.proofs.float.put_power.Goals as goal

pub put_decimal-requires : goal.put_decimal-requires
put_decimal-requires c =
    omega (
      arith,
      c.requires,
      c.put_bytes-a.ensures.value,
      c.put_bytes-a.auto.out,
      decimal-length
          (c.args.down - c.args.up),
    )

pub returns-then-up-down : goal.returns-then-up-down
unfolding bytes
returns-then-up-down c =
    let all = shown-as
    (then
    (laid c.args.out.now c.put_bytes-a.new.out c.args.at c.put_bytes-a.result
    (bytes "-") (c.put_bytes-a.ensures.value, c.put_bytes-a.ensures.out_after))
    (laid c.put_bytes-a.new.out c.put_decimal.new.out c.put_bytes-a.result
    c.put_decimal.result
    (decimal (c.args.down - c.args.up)) (c.put_decimal.ensures.value, c.put_decimal.ensures.out_after)))
    (power-down c.args.up c.args.down c.if-up-down.true) in
    record { value = all.end; out_after = all.list }

pub put_decimal-requires-2 : goal.put_decimal-requires-2
put_decimal-requires-2 c =
    omega (
      arith,
      c.requires,
      c.put_bytes-b.ensures.value,
      c.put_bytes-b.auto.out,
      decimal-length
          (c.args.up - c.args.down),
    )

pub returns : goal.returns
unfolding bytes
returns c =
    let all = shown-as
    (then
    (laid c.args.out.now c.put_bytes-b.new.out c.args.at c.put_bytes-b.result
    (bytes "+") (c.put_bytes-b.ensures.value, c.put_bytes-b.ensures.out_after))
    (laid c.put_bytes-b.new.out c.put_decimal-2.new.out c.put_bytes-b.result
    c.put_decimal-2.result
    (decimal (c.args.up - c.args.down)) (c.put_decimal-2.ensures.value, c.put_decimal-2.ensures.out_after)))
    (power-up c.args.up c.args.down c.if-up-down.false) in
    record { value = all.end; out_after = all.list }
