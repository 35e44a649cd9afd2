-- Of 0 there is none.
use Rattle.screen_number.specs.Number.{bytes}
use Rattle.screen_meaning.specs.Float.{power_signed}
use Rattle.screen_meaning.proofs.Forms.{exponent-none, exponent-some}
use Rattle.screen_number.proofs.Laid.{laid, shown-as}
use Rattle.screen_meaning.proofs.float.put_exponent.Goals as goal

pub returns-then-raised-fraction-eq0 : goal.returns-then-raised-fraction-eq0
unfolding bytes
returns-then-raised-fraction-eq0 c =
    let all = shown-as
    (laid c.args.out.now c.put_bytes.new.out c.args.at c.put_bytes.result
    (bytes "+0") (c.put_bytes.ensures.value, c.put_bytes.ensures.out_after))
    (exponent-none c.args.bias c.args.raised c.args.fraction c.if-raised-fraction-eq0.true) in
    record { value = all.end; out_after = all.list }

pub returns : goal.returns
unfolding bytes
returns c =
    let all = shown-as
    (laid c.args.out.now c.put_power.new.out c.args.at c.put_power.result
    (power_signed c.power_of.result c.args.bias) (c.put_power.ensures.value, c.put_power.ensures.out_after))
    (exponent-some c.args.bias c.args.raised c.args.fraction c.power_of.result c.if-raised-fraction-eq0.false
    c.power_of.ensures) in
    record { value = all.end; out_after = all.list }
