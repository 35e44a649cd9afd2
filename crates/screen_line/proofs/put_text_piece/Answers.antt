-- The head with the opening quote, or a part of the text.
use mathlib.Core.Path.{ap, ◌∙◌}
use native.Mathlib.Omega.{arith}
use Prim.Native.Nat.{◌-◌}
use lib.ListN.{length, take, drop}
use Rattle.screen_number.specs.Number.{bytes}
use Rattle.screen_head.specs.Head.{five_of, head}
use Rattle.screen_line.specs.Line.{bytes_of}
use Rattle.screen_line.specs.Pieces.{text_part}
use Rattle.screen_line.specs.Room.{bytes_in}
use Rattle.screen_line.proofs.Standing.{bytes_fit, bytes-are}
use Rattle.screen_line.proofs.Parts.{head-length, piece-opens, piece-behind}
use Rattle.screen_number.proofs.Laid.{laid, then, shown-as}
use Rattle.screen_line.proofs.put_text_piece.Goals as goal

pub put_bytes-requires : goal.put_bytes-requires
put_bytes-requires c =
    omega (
      arith,
      c.requires,
      c.put_head-a.ensures.value,
      c.put_head-a.auto.out,
      head-length
          (five_of c.args.entry),
    )

pub returns-then-i-eq0 : goal.returns-then-i-eq0
unfolding bytes
returns-then-i-eq0 c =
    let all = shown-as
    (then
    (laid c.args.out.now c.put_head-a.new.out (0) c.put_head-a.result
    (head (five_of c.args.entry))
    (c.put_head-a.ensures.value, c.put_head-a.ensures.out_after))
    (laid c.put_head-a.new.out c.put_bytes.new.out c.put_head-a.result
    c.put_bytes.result
    (bytes "  \"") (c.put_bytes.ensures.value, c.put_bytes.ensures.out_after)))
    (piece-opens (five_of c.args.entry)
    (bytes_of c.args.stream.now (five_of c.args.entry))
    c.args.i c.if-i-eq0.true) in
    record { value = all.end; out_after = all.list }

pub put_text_part-requires : goal.put_text_part-requires
put_text_part-requires c =
    record {
      in_bounds = c.requires;
      bytes_in_bounds = omega (
        arith,
        c.from_of.ensures,
        c.bytes_of.ensures,
        bytes_fit (length c.args.stream.now)
            c.args.entry.place.0 c.args.entry.value,
      );
    }

pub returns : goal.returns
unfolding bytes
returns c =
    let all = shown-as
    (laid c.args.out.now c.put_text_part.new.out (0) c.put_text_part.result
    (text_part (take c.bytes_of.result (drop c.from_of.result c.args.stream.now)) (c.args.i - 1))
    (c.put_text_part.ensures.value, c.put_text_part.ensures.out_after))
    (ap (λ x. text_part x (c.args.i - 1)) (ap (λ n. take n (drop c.from_of.result c.args.stream.now))
    c.bytes_of.ensures
    ∙ ap (λ n. take (bytes_in (length c.args.stream.now) c.args.entry.place.0 c.args.entry.value) (drop n c.args.stream.now))
    c.from_of.ensures ∙ bytes-are c.args.stream.now
    (five_of c.args.entry))
    ∙ piece-behind (five_of c.args.entry)
    (bytes_of c.args.stream.now (five_of c.args.entry))
    c.args.i c.if-i-eq0.false) in
    record { value = all.end; out_after = all.list }
