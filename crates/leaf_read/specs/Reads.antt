-- The slot that a leaf reads, and what it can hold.
use Rattle.std.specs.Prelude.{ℕ, ◌+◌, ◌≤◌, ◌≡◌, List, true, false, ltb}
use Rattle.rules.specs.declared.Content.{Content}
use Rattle.rules.specs.declared.Content.TheVariants.{Unset}
use Rattle.rules.specs.Limits.{slot_count, no_slot}
use Rattle.rules.specs.Record.{u8}

-- the slot that a leaf's class reads: kinds 26 and 27 name one
unfoldable pub leaf_slot : List ℕ → ℕ → ℕ
leaf_slot t at = elim (ltb (u8 t at) 26) [ true ↦ no_slot | false ↦ u8 t (at + 1) ]

-- a content that a slot can hold: past the sixty-four there is none
abbrev pub Held : ℕ → Content → Type 0
Held i x = slot_count ≤ i → x ≡ Unset
