-- To the nearest one, below the limit.
use mathlib.Core.Path.{sym, ◌∙◌}
use Rattle.screen_meaning.specs.Float.{marked}
use Rattle.screen_meaning.proofs.Forms.{laid_none}
use Rattle.screen_meaning.proofs.Forms.{decimals-none, decimals-some}
use Rattle.screen_number.proofs.Laid.{laid, shown-as}
use Rattle.screen_meaning.proofs.float.put_fraction.Goals as goal

pub returns-then-below_down : goal.returns-then-below_down
returns-then-below_down c =
    let all = shown-as
    (laid c.args.out.now c.put_marked.new.out c.args.at c.put_marked.result
    (marked c.is_exact-exactly.result c.args.negative c.millionths.result) (c.put_marked.ensures.value, c.put_marked.ensures.out_after))
    (decimals-some c.args.negative c.args.m 0 c.args.down c.is_exact-exactly.result
    c.millionths.result (sym c.below_down.ensures ∙ c.if-below_down.true) c.is_exact-exactly.ensures
    c.millionths.ensures) in
    record { value = all.end; out_after = all.list }

pub returns : goal.returns
returns c =
    let all = shown-as
    (laid_none c.args.out.now c.args.at)
    (decimals-none c.args.negative c.args.m 0 c.args.down (sym c.below_down.ensures ∙ c.if-below_down.false)) in
    record { value = all.end; out_after = all.list }
