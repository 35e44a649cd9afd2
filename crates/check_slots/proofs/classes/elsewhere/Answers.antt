-- The two tests of the definition.
use mathlib.Core.Path.{sym}
use borrow.Author.Tests.{eq-eqb, ne_eqb}
use Rattle.table_offsets.specs.Check.{pick_b}
use Rattle.check_slots.specs.Homes.{set_elsewhere}
use Rattle.check_slots.proofs.classes.elsewhere.Goals as goal

pub returns-then-h-eq0 : goal.returns-then-h-eq0
unfolding set_elsewhere pick_b
returns-then-h-eq0 c = simp (sym c.wide.ensures.0, eq-eqb _ _ c.if-h-eq0.true)

pub returns : goal.returns
unfolding set_elsewhere pick_b
returns c = simp (sym c.wide.ensures.0, ne_eqb _ _ c.if-h-eq0.false)
