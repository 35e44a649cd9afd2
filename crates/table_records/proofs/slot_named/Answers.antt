-- The record names a slot where its kind has a place for one.
use mathlib.Core.Path.{sym, ◌∙◌}
use Rattle.table_records.proofs.Named.{named_none, named-there}
use Rattle.table_records.proofs.slot_named.Goals as goal

pub returns-then-place-eq-NOWHERE : goal.returns-then-place-eq-NOWHERE
returns-then-place-eq-NOWHERE c =
    sym (named_none _ _ c.byte.ensures (sym c.slot_place-place.ensures.0 ∙ c.if-place-eq-NOWHERE.true))

pub returns : goal.returns
returns c =
    c.byte-2.ensures ∙ sym (named-there _ _ c.byte.ensures c.slot_place-place.ensures.0 c.if-place-eq-NOWHERE.false)
