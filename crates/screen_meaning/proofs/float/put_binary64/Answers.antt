-- No number, or one.
use Rattle.screen_meaning.specs.Float.{special, format, finite}
use Rattle.screen_meaning.proofs.Forms.{top_64, finite-64}
use Rattle.screen_number.proofs.Laid.{laid, shown-as}
use Rattle.screen_meaning.proofs.float.put_binary64.Goals as goal

pub returns-then-p-eq-TOP_64 : goal.returns-then-p-eq-TOP_64
returns-then-p-eq-TOP_64 c =
    let all = shown-as
    (laid c.args.out.now c.put_special.new.out c.args.at c.put_special.result
    (special c.args.p.negative c.args.p.fraction) (c.put_special.ensures.value, c.put_special.ensures.out_after))
    (top_64 c.args.p.negative c.args.p.raised c.args.p.fraction c.if-p-eq-TOP_64.true) in
    record { value = all.end; out_after = all.list }

pub returns : goal.returns
returns c =
    let all = shown-as
    (laid c.args.out.now c.put_finite.new.out c.args.at c.put_finite.result
    (finite (format 13 1023 4503599627370496 1075) c.args.p.negative c.args.p.raised c.args.p.fraction c.args.p.fraction)
    (c.put_finite.ensures.value, c.put_finite.ensures.out_after))
    (finite-64 c.args.p.negative c.args.p.raised c.args.p.fraction c.if-p-eq-TOP_64.false) in
    record { value = all.end; out_after = all.list }
