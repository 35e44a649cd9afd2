-- Nothing without a byte.
use mathlib.Core.Path.{sym, ap, ◌∙◌}
use native.Mathlib.Omega.{arith}
use mathlib.Core.List.{◌++◌}
use lib.ListN.{length, take, drop}
use Rattle.screen_number.specs.Number.{bytes}
use Rattle.screen_head.specs.Head.{five_of}
use Rattle.screen_meaning.specs.Bytes.{blob}
use Rattle.screen_line.specs.Line.{bytes_of}
use Rattle.screen_line.specs.Room.{bytes_in}
use Rattle.screen_line.proofs.Sorted.{no-blob-meant, blob-meant}
use Rattle.screen_line.proofs.Standing.{bytes_fit, bytes-are, bytes-length}
use Rattle.screen_line.proofs.Parts.{laid_none}
use Rattle.screen_number.proofs.Laid.{laid, then, shown-as}
use Rattle.screen_line.proofs.meant.put_bytes_meant.Goals as goal

pub returns-then-n-eq0 : goal.returns-then-n-eq0
returns-then-n-eq0 c =
    let all = shown-as
    (laid_none c.args.out.now c.args.at)
    (no-blob-meant (bytes_of c.args.stream.now (five_of c.args.entry))
    (sym (c.bytes_of-n.ensures ∙ sym (bytes-length c.args.stream.now
    (five_of c.args.entry))) ∙ c.if-n-eq0.true)) in
    record { value = all.end; out_after = all.list }

pub put_blob-requires : goal.put_blob-requires
put_blob-requires c =
    record {
      at_in_bounds = omega (arith, c.requires, c.put_bytes-a.ensures.value, c.put_bytes-a.auto.out);
      bytes_in_bounds = omega (
        arith,
        c.from_of-from.ensures,
        c.bytes_of-n.ensures,
        bytes_fit (length c.args.stream.now) c.args.entry.place.0
            c.args.entry.value,
      );
    }

pub returns : goal.returns
unfolding bytes
returns c =
    let all = shown-as
    (then
    (laid c.args.out.now c.put_bytes-a.new.out c.args.at c.put_bytes-a.result
    (bytes "  ") (c.put_bytes-a.ensures.value, c.put_bytes-a.ensures.out_after))
    (laid c.put_bytes-a.new.out c.put_blob.new.out c.put_bytes-a.result
    c.put_blob.result
    (blob (take c.bytes_of-n.result (drop c.from_of-from.result c.args.stream.now)))
    (c.put_blob.ensures.value, c.put_blob.ensures.out_after)))
    (ap (λ x. bytes "  " ++ blob x) (ap (λ n. take n (drop c.from_of-from.result c.args.stream.now))
    c.bytes_of-n.ensures
    ∙ ap (λ n. take (bytes_in (length c.args.stream.now) c.args.entry.place.0 c.args.entry.value) (drop n c.args.stream.now))
    c.from_of-from.ensures ∙ bytes-are c.args.stream.now (five_of c.args.entry))
    ∙ blob-meant (bytes_of c.args.stream.now (five_of c.args.entry))
    (λ e. c.if-n-eq0.false (c.bytes_of-n.ensures ∙ sym
    (bytes-length c.args.stream.now (five_of c.args.entry)) ∙ e))) in
    record { value = all.end; out_after = all.list }
