-- By the kind: two of them read none.
use native.Mathlib.Omega.{arith}
use Rattle.rules.specs.Record.{u8}
use mathlib.Core.Path.{◌∙◌}
use Rattle.field_inside.proofs.Holders.{no-slot-28, no-slot-29, slot_read}
use Rattle.field_inside.proofs.look.slot_read.Goals as goal
use Rattle.field_inside.proofs.look.slot_read.Lts as lts
use Rattle.field_inside.proofs.look.slot_read.Tie as tie
use Rattle.field_inside.proofs.look.slot_read.Reads as reads

-- Places of the code: all is given; the kind is neither of the two

abbrev AtStart : Type 0
AtStart = lts.Start tie.the-claims reads.Pre reads.Post

abbrev AtOther : Type 0
AtOther = lts.Past-At-match-rest tie.the-claims reads.Pre reads.Post

-- The way back

abbrev to_start : AtOther → AtStart
to_start c = c.before.before.before

-- The bytes that are read, and the slot by the kind

pub returns-in-28 : goal.returns-in-28
unfolding u8
returns-in-28 c = (no-slot-28 _ _ c.in-28.is, omega arith)

pub returns-in-29 : goal.returns-in-29
unfolding u8
returns-in-29 c = (no-slot-29 _ _ c.in-29.is, omega arith)

pub returns-in_default : goal.returns-in_default
unfolding u8
returns-in_default c =
    let d = c.before.before in
    let p = d.requires in
    (c.count_at.ensures.0 ∙ slot_read _ _ p.0 p.1 d.in_default.in_default-own.rest.0.1 d.in_default.in_default-own.rest.1, c.count_at.ensures.1)
