-- Nothing, or a minus sign.
use mathlib.Core.List.{[], ◌∷◌}
use Rattle.screen_number.specs.Number.{minus}
use Rattle.screen_meaning.proofs.Forms.{laid_none, sign-none, sign-minus}
use Rattle.screen_number.proofs.Laid.{laid, shown-as}
use Rattle.screen_meaning.proofs.float.put_sign.Goals as goal

pub returns-then-negative-eq0 : goal.returns-then-negative-eq0
returns-then-negative-eq0 c =
    let all = shown-as
    (laid_none c.args.out.now c.args.at)
    (sign-none c.args.negative c.if-negative-eq0.true) in
    record { value = all.end; out_after = all.list }

pub returns : goal.returns
returns c =
    let all = shown-as
    (laid c.args.out.now c.put_bytes.new.out c.args.at c.put_bytes.result
    (minus ∷ []) (c.put_bytes.ensures.value, c.put_bytes.ensures.out_after))
    (sign-minus c.args.negative c.if-negative-eq0.false) in
    record { value = all.end; out_after = all.list }
