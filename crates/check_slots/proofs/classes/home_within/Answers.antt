-- By the kind of the record.
use native.Mathlib.Omega.{arith}
use mathlib.Core.Path.{sym, ◌∙◌}
use borrow.Author.Tests.{eq-eqb, ne_eqb}
use Rattle.table_offsets.specs.Check.{pick_n}
use Rattle.check_slots.specs.Homes.{home_within}
use Rattle.check_slots.proofs.classes.home_within.Goals as goal

pub returns-in-29 : goal.returns-in-29
unfolding home_within pick_n
returns-in-29 c = simp (eq-eqb _ _ (sym c.byte-k.ensures ∙ c.in-29.is))

pub returns-in-30 : goal.returns-in-30
unfolding home_within pick_n
returns-in-30 c = simp (sym c.byte-k.ensures, c.in-30.is)

pub returns-in_default : goal.returns-in_default
unfolding home_within pick_n
returns-in_default c =
    let k = c.byte-k.result in
    simp (sym c.byte-k.ensures, ne_eqb k 29 (omega arith), ne_eqb k 30 (omega arith))
