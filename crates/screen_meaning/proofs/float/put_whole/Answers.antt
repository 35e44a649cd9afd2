-- Exact, below the limit.
use mathlib.Core.Path.{sym, ◌∙◌}
use mathlib.Core.Bool.{true}
use Rattle.screen_meaning.specs.Float.{marked}
use Rattle.screen_meaning.proofs.Forms.{laid_none}
use Rattle.screen_meaning.proofs.Forms.{decimals-none, decimals-some}
use Rattle.screen_meaning.proofs.Nearest.{whole-exact}
use Rattle.screen_number.proofs.Laid.{laid, shown-as}
use Rattle.screen_meaning.proofs.float.put_whole.Goals as goal

pub returns-then-below_up : goal.returns-then-below_up
returns-then-below_up c =
    let all = shown-as
    (laid c.args.out.now c.put_marked.new.out c.args.at c.put_marked.result
    (marked true c.args.negative c.whole.result) (c.put_marked.ensures.value, c.put_marked.ensures.out_after))
    (decimals-some c.args.negative c.args.m c.args.up 0 true c.whole.result
    (sym c.below_up.ensures ∙ c.if-below_up.true) (whole-exact c.args.m c.args.up) c.whole.ensures) in
    record { value = all.end; out_after = all.list }

pub returns : goal.returns
returns c =
    let all = shown-as
    (laid_none c.args.out.now c.args.at)
    (decimals-none c.args.negative c.args.m c.args.up 0 (sym c.below_up.ensures ∙ c.if-below_up.false)) in
    record { value = all.end; out_after = all.list }
