-- One of two.
use Rattle.screen_number.specs.Number.{bytes}
use Rattle.screen_meaning.proofs.Forms.{mark-exact, mark-rounded}
use Rattle.screen_number.proofs.Laid.{laid, shown-as}
use Rattle.screen_meaning.proofs.float.put_mark.Goals as goal

pub returns-then-exactly : goal.returns-then-exactly
unfolding bytes
returns-then-exactly c =
    let all = shown-as
    (laid c.args.out.now c.put_bytes.new.out c.args.at c.put_bytes.result
    (bytes " =") (c.put_bytes.ensures.value, c.put_bytes.ensures.out_after))
    (mark-exact c.args.exactly c.if-exactly.true) in
    record { value = all.end; out_after = all.list }

pub returns : goal.returns
unfolding bytes
returns c =
    let all = shown-as
    (laid c.args.out.now c.put_bytes-2.new.out c.args.at c.put_bytes-2.result
    (bytes " ~") (c.put_bytes-2.ensures.value, c.put_bytes-2.ensures.out_after))
    (mark-rounded c.args.exactly c.if-exactly.false) in
    record { value = all.end; out_after = all.list }
