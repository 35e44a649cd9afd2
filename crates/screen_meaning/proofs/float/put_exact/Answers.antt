-- Piece by piece.
use native.Mathlib.Omega.{arith}
use Rattle.screen_number.specs.Number.{bytes, hex}
use Rattle.screen_number.proofs.Laid.{length-hex}
use Rattle.screen_meaning.specs.Float.{lead, exponent, exact}
use Rattle.screen_meaning.proofs.Forms.{lead-length}
use Rattle.screen_number.proofs.Laid.{laid, then}
use Rattle.screen_meaning.proofs.float.put_exact.Goals as goal

pub put_bytes-c-requires : goal.put_bytes-c-requires
put_bytes-c-requires c =
    omega (
      arith,
      c.requires,
      c.put_bytes-a.ensures.value,
      c.put_bytes-a.auto.out,
      c.put_lead-b.ensures.value,
      c.put_lead-b.auto.out,
      lead-length c.args.raised,
    )

pub put_hex-d-requires : goal.put_hex-d-requires
put_hex-d-requires c =
    omega (
      arith,
      c.requires,
      c.put_bytes-a.ensures.value,
      c.put_bytes-a.auto.out,
      c.put_lead-b.ensures.value,
      c.put_lead-b.auto.out,
      lead-length c.args.raised,
      c.put_bytes-c.ensures.value,
      c.put_bytes-c.auto.out,
      length-hex c.args.digits c.args.filled,
    )

pub put_bytes-e-requires : goal.put_bytes-e-requires
put_bytes-e-requires c =
    omega (
      arith,
      c.requires,
      c.put_bytes-a.ensures.value,
      c.put_bytes-a.auto.out,
      c.put_lead-b.ensures.value,
      c.put_lead-b.auto.out,
      lead-length c.args.raised,
      c.put_bytes-c.ensures.value,
      c.put_bytes-c.auto.out,
      c.put_hex-d.ensures.value,
      c.put_hex-d.auto.out,
      length-hex c.args.digits
          c.args.filled,
    )

pub put_exponent-requires : goal.put_exponent-requires
put_exponent-requires c =
    record {
      at_in_bounds = omega (
        arith,
        c.requires,
        c.put_bytes-a.ensures.value,
        c.put_bytes-a.auto.out,
        c.put_lead-b.ensures.value,
        c.put_lead-b.auto.out,
        lead-length c.args.raised,
        c.put_bytes-c.ensures.value,
        c.put_bytes-c.auto.out,
        c.put_hex-d.ensures.value,
        c.put_hex-d.auto.out,
        length-hex c.args.digits
            c.args.filled,
        c.put_bytes-e.ensures.value,
        c.put_bytes-e.auto.out,
      );
      fraction_bound = c.requires.digits_bound.1;
    }

pub returns : goal.returns
unfolding exact bytes
returns c =
    let all = then
    (then
    (then
    (then
    (then
    (laid c.args.out.now c.put_bytes-a.new.out c.args.at c.put_bytes-a.result
    (bytes "0x") (c.put_bytes-a.ensures.value, c.put_bytes-a.ensures.out_after))
    (laid c.put_bytes-a.new.out c.put_lead-b.new.out c.put_bytes-a.result
    c.put_lead-b.result
    (lead c.args.raised) (c.put_lead-b.ensures.value, c.put_lead-b.ensures.out_after)))
    (laid c.put_lead-b.new.out c.put_bytes-c.new.out c.put_lead-b.result
    c.put_bytes-c.result
    (bytes ".") (c.put_bytes-c.ensures.value, c.put_bytes-c.ensures.out_after)))
    (laid c.put_bytes-c.new.out c.put_hex-d.new.out c.put_bytes-c.result
    c.put_hex-d.result
    (hex c.args.digits c.args.filled) (c.put_hex-d.ensures.value, c.put_hex-d.ensures.out_after)))
    (laid c.put_hex-d.new.out c.put_bytes-e.new.out c.put_hex-d.result
    c.put_bytes-e.result
    (bytes "p") (c.put_bytes-e.ensures.value, c.put_bytes-e.ensures.out_after)))
    (laid c.put_bytes-e.new.out c.put_exponent.new.out c.put_bytes-e.result
    c.put_exponent.result
    (exponent c.args.bias c.args.raised c.args.fraction) (c.put_exponent.ensures.value, c.put_exponent.ensures.out_after)) in
    record { value = all.end; out_after = all.list }
