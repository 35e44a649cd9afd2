-- No range, and a flag decides; else the ranges, of the sign of the first.
use Rattle.std.proofs.Common.{sym, ◌∙◌, arith}
use Rattle.rules.specs.Record.{u8}
use Rattle.field_choice.proofs.Choosing.{optional-by-flag, optional-refused, optional-chosen}
use Rattle.field_choice.proofs.choose_optional.Goals as goal

pub returns-then-count-eq0 : goal.returns-then-count-eq0
unfolding u8
returns-then-count-eq0 c =
    c.by_flag.ensures
    ∙ rw c.count_at-count.ensures.0 (optional-by-flag _ _ _ (sym c.count_at-count.ensures.0 ∙ c.if-count-eq0.true))

pub any_holds-requires : goal.any_holds-requires
any_holds-requires c = (omega (arith, c.requires.ranges, c.count_at-count.ensures.0), c.requires.limit)

pub returns-in-Err : goal.returns-in-Err
unfolding u8
returns-in-Err c =
    optional-refused _ _ _ _ (λ e. c.if-count-eq0.false (c.count_at-count.ensures.0 ∙ e)) (sym c.number_of.ensures ∙ c.in-Err.is)

pub returns-in-Ok : goal.returns-in-Ok
unfolding u8
returns-in-Ok c =
    rw (c.present.ensures, c.any_holds.ensures, c.count_at-count.ensures.0)
    (optional-chosen _ _ _ _ (λ e. c.if-count-eq0.false (c.count_at-count.ensures.0 ∙ e)) (sym c.number_of.ensures ∙ c.in-Ok.is))
