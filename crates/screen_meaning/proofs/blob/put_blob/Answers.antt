-- All of them, or the first thirty-two.
use mathlib.Core.Path.{sym, ap, ◌∙◌}
use native.Mathlib.Omega.{arith}
use mathlib.Core.List.{◌++◌}
use lib.ListN.{take, drop}
use Rattle.screen_meaning.specs.Bytes.{hexes, more}
use Rattle.screen_meaning.proofs.Hexes.{length-hexes, length_part, first-bytes, blob-short, blob-long}
use Rattle.screen_number.proofs.Laid.{laid, then, shown-as}
use Rattle.screen_meaning.proofs.blob.put_blob.Goals as goal

pub put_more-requires : goal.put_more-requires
put_more-requires c =
    record {
      at_in_bounds = omega (
        arith,
        c.requires.at_in_bounds,
        c.put_hexes-end.ensures.value,
        c.put_hexes-end.auto.out,
        length-hexes
            (take 32 (drop c.args.from c.args.stream.now)),
        length_part c.args.stream.now c.args.from 32
            (omega (arith, c.requires.bytes_in_bounds, c.if-bytes-gt32.true)),
      );
      lt_bytes = c.if-bytes-gt32.true;
    }

pub returns-then-bytes-gt32 : goal.returns-then-bytes-gt32
returns-then-bytes-gt32 c =
    let all = shown-as
    (then
    (laid c.args.out.now c.put_hexes-end.new.out c.args.at c.put_hexes-end.result
    (hexes (take 32 (drop c.args.from c.args.stream.now))) (c.put_hexes-end.ensures.value, c.put_hexes-end.ensures.out_after))
    (laid c.put_hexes-end.new.out c.put_more.new.out c.put_hexes-end.result
    c.put_more.result
    (more c.args.bytes) (c.put_more.ensures.value, c.put_more.ensures.out_after)))
    (ap (λ x. hexes x ++ more c.args.bytes) (first-bytes c.args.stream.now c.args.from c.args.bytes c.if-bytes-gt32.true)
    ∙ ap (λ k. hexes (take 32 (take c.args.bytes (drop c.args.from c.args.stream.now))) ++ more k)
    (sym (length_part c.args.stream.now c.args.from c.args.bytes c.requires.bytes_in_bounds))
    ∙ blob-long (take c.args.bytes (drop c.args.from c.args.stream.now))
    (omega (arith, c.if-bytes-gt32.true, length_part c.args.stream.now c.args.from c.args.bytes c.requires.bytes_in_bounds))) in
    record { value = all.end; out_after = all.list }

pub returns : goal.returns
returns c =
    let all = shown-as
    (laid c.args.out.now c.put_hexes.new.out c.args.at c.put_hexes.result
    (hexes (take c.args.bytes (drop c.args.from c.args.stream.now))) (c.put_hexes.ensures.value, c.put_hexes.ensures.out_after))
    (blob-short (take c.args.bytes (drop c.args.from c.args.stream.now))
    (omega (arith, c.if-bytes-gt32.false, length_part c.args.stream.now c.args.from c.args.bytes c.requires.bytes_in_bounds))) in
    record { value = all.end; out_after = all.list }
