-- The sign is that of the first range, which is there.
use Rattle.std.proofs.Common.{sym, ◌∙◌, arith}
use Rattle.rules.specs.Record.{u8}
use Rattle.field_choice.proofs.Choosing.{variant-refused, variant-chosen, first_range}
use Rattle.field_choice.proofs.choose_option.Goals as goal

pub bounds-table-at : goal.bounds-table-at
bounds-table-at c = omega (arith, first_range c.requires)

pub first_option-requires : goal.first_option-requires
first_option-requires c =
    let w = c.requires in
    record { whole_options = rw c.count_at.ensures.0 w.options; table_len_bound = (w.limit, w.room) }

pub returns-in-Err : goal.returns-in-Err
unfolding u8
returns-in-Err c = variant-refused _ _ _ _ _ (sym c.number_of.ensures ∙ c.in-Err.is)

pub returns-in-Ok : goal.returns-in-Ok
unfolding u8
returns-in-Ok c =
    rw (c.first_option.ensures, c.count_at.ensures.0)
    (variant-chosen _ _ _ _ _ (sym c.number_of.ensures ∙ c.in-Ok.is))
