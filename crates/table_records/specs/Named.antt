-- The slot that a record of a table names to be set.
use Rattle.std.specs.Prelude.{ℕ, ◌+◌, List, true, false, eqb}
use Rattle.rules.specs.Limits.{no_slot}
use Rattle.rules.specs.Faults.{pick}
use Rattle.rules.specs.Record.{u8}

-- how far behind its first byte a record of a kind names the slot to set, 0 where it names none: 17 "length, order, align, slot", 18
-- "length, order, align, slot, role", 19 "as 17", 21 and 22 "slot, role / slot" (The class table)
unfoldable pub slot_place : ℕ → ℕ
slot_place k = pick (eqb k 17) 4 (pick (eqb k 18) 4 (pick (eqb k 19) 4 (pick (eqb k 21) 1 (pick (eqb k 22) 1 0))))

-- the slot that the record at a byte names to be set: "255 means none where a slot is set"
unfoldable pub named_at : List ℕ → ℕ → ℕ
named_at t p = elim (eqb (slot_place (u8 t p)) 0) [ true ↦ no_slot | false ↦ u8 t (p + slot_place (u8 t p)) ]
