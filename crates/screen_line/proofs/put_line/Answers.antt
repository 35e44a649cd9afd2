-- Head, meaning, and the line's end.
use mathlib.Core.Path.{ap, ◌∙◌}
use native.Mathlib.Omega.{arith}
use mathlib.Core.List.{◌++◌, append_assoc}
use Rattle.screen_number.specs.Number.{bytes}
use Rattle.screen_head.specs.Head.{five_of, head}
use Rattle.screen_line.specs.Line.{line}
use Rattle.screen_line.specs.Sorts.{number_of, short_meaning}
use Rattle.screen_line.proofs.Sorted.{meant-by}
use Rattle.screen_line.proofs.Lengths.{short-length}
use Rattle.screen_line.proofs.Parts.{head-length}
use Rattle.screen_number.proofs.Laid.{laid, then, shown-as}
use Rattle.screen_line.proofs.put_line.Goals as goal

pub put_meaning-b-requires : goal.put_meaning-b-requires
put_meaning-b-requires c =
    omega (
      arith,
      c.requires,
      c.put_head-a.ensures.value,
      c.put_head-a.auto.out,
      head-length
          (five_of c.args.entry),
    )

pub put_bytes-requires : goal.put_bytes-requires
put_bytes-requires c =
    omega (
      arith,
      c.requires,
      c.put_head-a.ensures.value,
      c.put_head-a.auto.out,
      head-length
          (five_of c.args.entry),
      c.put_meaning-b.ensures.value,
      c.put_meaning-b.auto.out,
      short-length (number_of c.args.sort) c.args.stream.now c.args.frequency
          (five_of c.args.entry),
    )

pub returns : goal.returns
unfolding line bytes
returns c =
    let all = shown-as
    (then
    (then
    (laid c.args.out.now c.put_head-a.new.out (0) c.put_head-a.result
    (head (five_of c.args.entry))
    (c.put_head-a.ensures.value, c.put_head-a.ensures.out_after))
    (laid c.put_head-a.new.out c.put_meaning-b.new.out c.put_head-a.result
    c.put_meaning-b.result
    (short_meaning (number_of c.args.sort) c.args.stream.now c.args.frequency
    (five_of c.args.entry)) (c.put_meaning-b.ensures.value, c.put_meaning-b.ensures.out_after)))
    (laid c.put_meaning-b.new.out c.put_bytes.new.out c.put_meaning-b.result
    c.put_bytes.result
    (bytes "\n") (c.put_bytes.ensures.value, c.put_bytes.ensures.out_after)))
    (append_assoc (head (five_of c.args.entry))
    (short_meaning (number_of c.args.sort) c.args.stream.now c.args.frequency
    (five_of c.args.entry)) (bytes "\n")
    ∙ ap (λ x. head (five_of c.args.entry) ++ (x ++ bytes "\n"))
    (meant-by c.args.stream.now c.args.frequency
    (five_of c.args.entry) (number_of c.args.sort) c.requires.sort_value.0
    c.requires.sort_value.1)) in
    record { value = all.end; out_after = all.list }
