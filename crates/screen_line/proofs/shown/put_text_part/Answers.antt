-- Thirty-two bytes, the rest with the closing quote, or nothing.
use native.Mathlib.Omega.{arith}
use Prim.Native.Nat.{◌*◌, ◌%◌}
use lib.ListN.{take, drop}
use Rattle.screen_number.specs.Number.{bytes}
use Rattle.screen_text.specs.Escape.{part}
use Rattle.screen_text.proofs.Texts.{part_length}
use Rattle.screen_line.proofs.Parts.{laid_none, whole_of, last_of, none_of}
use Rattle.screen_number.proofs.Laid.{laid, then, shown-as}
use Rattle.screen_line.proofs.shown.put_text_part.Goals as goal

pub returns-then-k-bytes : goal.returns-then-k-bytes
returns-then-k-bytes c =
    let all = shown-as
    (laid c.args.out.now c.put_part.new.out (0) c.put_part.result
    (part (take c.args.bytes (drop c.args.from c.args.stream.now)) (32 * c.args.k) 32)
    (c.put_part.ensures.value, c.put_part.ensures.out_after))
    (whole_of c.args.stream.now c.args.from c.args.bytes c.requires.bytes_in_bounds c.args.k c.if-k-bytes.true) in
    record { value = all.end; out_after = all.list }

pub put_bytes-requires : goal.put_bytes-requires
put_bytes-requires c =
    omega (
      arith,
      c.requires.in_bounds,
      c.put_part-a.ensures.value,
      c.put_part-a.auto.out,
      part_length
          (take c.args.bytes (drop c.args.from c.args.stream.now)) (32 * c.args.k) (c.args.bytes % 32),
    )

pub returns-then-k-bytes-2 : goal.returns-then-k-bytes-2
unfolding bytes
returns-then-k-bytes-2 c =
    let all = shown-as
    (then
    (laid c.args.out.now c.put_part-a.new.out (0) c.put_part-a.result
    (part (take c.args.bytes (drop c.args.from c.args.stream.now)) (32 * c.args.k) (c.args.bytes % 32))
    (c.put_part-a.ensures.value, c.put_part-a.ensures.out_after))
    (laid c.put_part-a.new.out c.put_bytes.new.out c.put_part-a.result
    c.put_bytes.result
    (bytes "\"\n") (c.put_bytes.ensures.value, c.put_bytes.ensures.out_after)))
    (last_of c.args.stream.now c.args.from c.args.bytes c.requires.bytes_in_bounds c.args.k c.if-k-bytes-2.true) in
    record { value = all.end; out_after = all.list }

pub returns : goal.returns
returns c =
    let all = shown-as (laid_none c.args.out.now 0) (none_of c.args.stream.now c.args.from c.args.bytes c.requires.bytes_in_bounds
    c.args.k c.if-k-bytes.false c.if-k-bytes-2.false) in
    record { value = all.end; out_after = all.list }
