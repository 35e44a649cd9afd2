-- The four rows of UTF8-3, by the byte.
use mathlib.Core.Path.{◌∙◌}
use Rattle.text.proofs.Characters.{first-E0, first-ED, first-of-three}
use Rattle.text.proofs.first_of_three.Goals as goal

pub returns-then-byte-eq224 : goal.returns-then-byte-eq224
returns-then-byte-eq224 c = c.bytes_due.ensures ∙ first-E0 _ c.if-byte-eq224.true

pub returns-then-byte-eq237 : goal.returns-then-byte-eq237
returns-then-byte-eq237 c = c.bytes_due-then-byte-eq237.ensures ∙ first-ED _ c.if-byte-eq237.true

pub returns : goal.returns
returns c =
    c.bytes_due-2.ensures
    ∙ first-of-three _ c.requires.le_byte c.requires.byte_bound c.if-byte-eq224.false c.if-byte-eq237.false
