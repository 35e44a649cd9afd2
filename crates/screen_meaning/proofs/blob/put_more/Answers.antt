-- The words around the number.
use native.Mathlib.Omega.{arith}
use Prim.Native.Nat.{◌-◌}
use Rattle.screen_number.specs.Number.{bytes, decimal}
use Rattle.screen_number.proofs.Decimal.{decimal-length}
use Rattle.screen_meaning.specs.Bytes.{more}
use Rattle.screen_number.proofs.Laid.{laid, then}
use Rattle.screen_meaning.proofs.blob.put_more.Goals as goal

pub put_decimal-b-requires : goal.put_decimal-b-requires
put_decimal-b-requires c =
    omega (arith, c.requires, c.put_bytes-a.ensures.value, c.put_bytes-a.auto.out, decimal-length (c.args.bytes - 32))

pub put_bytes-requires : goal.put_bytes-requires
put_bytes-requires c =
    omega (
      arith,
      c.requires,
      c.put_bytes-a.ensures.value,
      c.put_bytes-a.auto.out,
      c.put_decimal-b.ensures.value,
      c.put_decimal-b.auto.out,
      decimal-length (c.args.bytes - 32),
    )

pub returns : goal.returns
unfolding more bytes
returns c =
    let all = then
    (then
    (laid c.args.out.now c.put_bytes-a.new.out c.args.at c.put_bytes-a.result
    (bytes " + ") (c.put_bytes-a.ensures.value, c.put_bytes-a.ensures.out_after))
    (laid c.put_bytes-a.new.out c.put_decimal-b.new.out c.put_bytes-a.result
    c.put_decimal-b.result
    (decimal (c.args.bytes - 32)) (c.put_decimal-b.ensures.value, c.put_decimal-b.ensures.out_after)))
    (laid c.put_decimal-b.new.out c.put_bytes.new.out c.put_decimal-b.result
    c.put_bytes.result
    (bytes " bytes") (c.put_bytes.ensures.value, c.put_bytes.ensures.out_after)) in
    record { value = all.end; out_after = all.list }
