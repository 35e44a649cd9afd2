-- By the exponent.
use Rattle.screen_number.specs.Number.{bytes}
use Rattle.screen_meaning.proofs.Forms.{lead_zero, lead-one}
use Rattle.screen_number.proofs.Laid.{laid, shown-as}
use Rattle.screen_meaning.proofs.float.put_lead.Goals as goal

pub returns-then-raised-eq0 : goal.returns-then-raised-eq0
unfolding bytes
returns-then-raised-eq0 c =
    let all = shown-as
    (laid c.args.out.now c.put_bytes.new.out c.args.at c.put_bytes.result
    (bytes "0") (c.put_bytes.ensures.value, c.put_bytes.ensures.out_after))
    (lead_zero c.args.raised c.if-raised-eq0.true) in
    record { value = all.end; out_after = all.list }

pub returns : goal.returns
unfolding bytes
returns c =
    let all = shown-as
    (laid c.args.out.now c.put_bytes-2.new.out c.args.at c.put_bytes-2.result
    (bytes "1") (c.put_bytes-2.ensures.value, c.put_bytes-2.ensures.out_after))
    (lead-one c.args.raised c.if-raised-eq0.false) in
    record { value = all.end; out_after = all.list }
