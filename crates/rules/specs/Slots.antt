-- "Slots stand for field locations: there are sixty-four slots, and a slot is unset, a flag, an unsigned number or a signed number."
-- (The class table)
use Rattle.std.specs.Prelude.{ℕ, ◌-◌, List, [], ◌∷◌, ◌++◌, get_or, set, take, replicate}
use Rattle.rules.specs.declared.Content.{Content}
use Rattle.rules.specs.declared.Content.TheVariants.{Unset}
use Rattle.rules.specs.declared.Slot.{Slot}
use Rattle.rules.specs.Limits.{slot_count, packet_slot_count}

abbrev pub Slots : Type 0
Slots = List Slot

abbrev pub slot : Content → Slot
slot x = record { content = x }

-- "All slots are unset when a packet starts, 16 to 63 when an event starts."
unfoldable pub no_slots : Slots
no_slots = replicate slot_count (slot Unset)

unfoldable pub packet_slots : Slots → Slots
packet_slots l = take packet_slot_count l ++ replicate (slot_count - packet_slot_count) (slot Unset)

unfoldable pub slot_at : Slots → ℕ → Content
slot_at l i = (get_or l i (slot Unset)).content

-- "A later field with the same slot overwrites it." 255, no slot, lies past the sixty-four, where nothing is set
unfoldable pub set_slot : Slots → ℕ → Content → Slots
set_slot l i x = set l i (slot x)

unfoldable pub unset : Slots → List ℕ → Slots
unset l [] = l
unset l (i ∷ is) = unset (set_slot l i Unset) is
