-- A mark, and the digits.
use mathlib.Core.Path.{ap}
use native.Mathlib.Omega.{arith}
use mathlib.Core.List.{◌++◌}
use Rattle.screen_number.specs.Number.{bytes, hex}
use Rattle.screen_meaning.specs.Bytes.{bit_array}
use Rattle.screen_meaning.proofs.Hexes.{digits-most}
use Rattle.screen_number.proofs.Laid.{laid, then, shown-as}
use Rattle.screen_meaning.proofs.blob.put_bit_array.Goals as goal

pub put_hex-requires : goal.put_hex-requires
put_hex-requires c =
    omega (
      arith,
      c.requires,
      c.put_bytes-end.ensures.value,
      c.put_bytes-end.auto.out,
      c.digits_of-digits.ensures,
      digits-most c.args.bits,
    )

pub returns : goal.returns
unfolding bit_array bytes
returns c =
    let all = shown-as
    (then
    (laid c.args.out.now c.put_bytes-end.new.out c.args.at c.put_bytes-end.result
    (bytes "0x") (c.put_bytes-end.ensures.value, c.put_bytes-end.ensures.out_after))
    (laid c.put_bytes-end.new.out c.put_hex.new.out c.put_bytes-end.result c.put_hex.result
    (hex c.digits_of-digits.result c.args.value) (c.put_hex.ensures.value, c.put_hex.ensures.out_after)))
    (ap (λ k. bytes "0x" ++ hex k c.args.value) c.digits_of-digits.ensures) in
    record { value = all.end; out_after = all.list }
