-- By the kind of the record.
use mathlib.Core.Path.{sym, ◌∙◌}
use borrow.Author.Tests.{eq-eqb, ne_eqb}
use Rattle.table_offsets.specs.Check.{pick_n}
use Rattle.check_slots.specs.Homes.{parts}
use Rattle.check_slots.proofs.classes.parts.Goals as goal

pub returns-then-k-eq-STRUCTURE : goal.returns-then-k-eq-STRUCTURE
unfolding parts pick_n
returns-then-k-eq-STRUCTURE c =
    simp (c.wide.ensures.0, c.byte.ensures, sym c.byte-k.ensures, eq-eqb _ _ c.if-k-eq-STRUCTURE.true)

pub returns-then-k-eq-VARIANT : goal.returns-then-k-eq-VARIANT
unfolding parts pick_n
returns-then-k-eq-VARIANT c =
    simp (
      c.wide-then-k-eq-VARIANT.ensures.0,
      c.byte-then-k-eq-VARIANT.ensures,
      sym c.byte-k.ensures,
      ne_eqb _ _ c.if-k-eq-STRUCTURE.false,
      eq-eqb _ _ c.if-k-eq-VARIANT.true,
    )

pub returns-then-within : goal.returns-then-within
unfolding parts pick_n
returns-then-within c =
    simp (
      sym c.byte-k.ensures,
      ne_eqb _ _ c.if-k-eq-STRUCTURE.false,
      ne_eqb _ _ c.if-k-eq-VARIANT.false,
      sym c.within.ensures ∙ c.if-within.true,
    )

pub returns : goal.returns
unfolding parts pick_n
returns c =
    simp (
      sym c.byte-k.ensures,
      ne_eqb _ _ c.if-k-eq-STRUCTURE.false,
      ne_eqb _ _ c.if-k-eq-VARIANT.false,
      sym c.within.ensures ∙ c.if-within.false,
    )
