-- The bytes from the aligned place to the bound are those that the rules read.
use mathlib.Core.Path.{refl, ap}
use mathlib.Core.Bool.{not}
use borrow.Author.Tests.{ne_eqb}
use Rattle.leaf_find_number.proofs.Finds.{number-past, number-signed, number-unsigned, short-unsigned, short-signed}
use Rattle.frame.specs.Framed.{aligned_at}
use Rattle.leaf_find_number.proofs.find_leb.Goals as goal

pub returns-then-frame-place : goal.returns-then-frame-place
unfolding aligned_at
returns-then-frame-place g c = number-past _ _ _ _ c.align-place.ensures _ c.if-frame-place.true

pub leb_at-requires-clause-short : goal.leb_at-requires-clause-short
leb_at-requires-clause-short g c = short-signed _ _ c.signed.ensures

pub returns-then-this-ne0 : goal.returns-then-this-ne0
unfolding aligned_at
returns-then-this-ne0 g c =
    rw (c.leb_at.ensures, c.signed.ensures, c.bytes_before-at.ensures, c.bytes_before-end.ensures)
    (number-signed _ _ _ _ c.align-place.ensures c.requires.whole c.if-frame-place.false (ap not (ne_eqb _ _ c.if-this-ne0.true)))

pub leb_at-requires-2-clause-short : goal.leb_at-requires-2-clause-short
leb_at-requires-2-clause-short g c = short-unsigned _ _ c.unsigned.ensures

pub returns : goal.returns
unfolding aligned_at
returns g c =
    rw (c.leb_at-2.ensures, c.unsigned.ensures, c.bytes_before-at.ensures, c.bytes_before-end.ensures)
    (number-unsigned _ _ _ _ c.align-place.ensures c.requires.whole c.if-frame-place.false (rw c.if-this-ne0.false refl))
