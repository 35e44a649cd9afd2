-- No number, or one.
use Prim.Native.Nat.{◌*◌}
use Rattle.screen_meaning.specs.Float.{special, format, finite}
use Rattle.screen_meaning.proofs.Forms.{top_32, finite-32}
use Rattle.screen_number.proofs.Laid.{laid, shown-as}
use Rattle.screen_meaning.proofs.float.put_binary32.Goals as goal

pub returns-then-p-eq-TOP_32 : goal.returns-then-p-eq-TOP_32
returns-then-p-eq-TOP_32 c =
    let all = shown-as
    (laid c.args.out.now c.put_special.new.out c.args.at c.put_special.result
    (special c.args.p.negative c.args.p.fraction) (c.put_special.ensures.value, c.put_special.ensures.out_after))
    (top_32 c.args.p.negative c.args.p.raised c.args.p.fraction c.if-p-eq-TOP_32.true) in
    record { value = all.end; out_after = all.list }

pub returns : goal.returns
returns c =
    let all = shown-as
    (laid c.args.out.now c.put_finite.new.out c.args.at c.put_finite.result
    (finite (format 6 127 8388608 150) c.args.p.negative c.args.p.raised c.args.p.fraction (c.args.p.fraction * 2))
    (c.put_finite.ensures.value, c.put_finite.ensures.out_after))
    (finite-32 c.args.p.negative c.args.p.raised c.args.p.fraction c.if-p-eq-TOP_32.false) in
    record { value = all.end; out_after = all.list }
