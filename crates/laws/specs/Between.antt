-- Places within a packet: at or behind its start, and at or before the bound; and whether the place has moved where a length is stated.
use Rattle.std.specs.Prelude.{◌≡◌, ◌⊎◌, ℕ, ◌≤◌, ◌<◌, None}
use Rattle.rules.specs.declared.Said.{Said}
use Rattle.rules.specs.Field.{Env}

abbrev pub Between : Env → ℕ → Type 0
Between e p = (e.start.0 ≤ p) × (p ≤ e.bound.0)

-- no length is stated, or the place is behind the packet's start
abbrev pub Moved : Env → ℕ → Said → Type 0
Moved e p d = ((d.total ≡ None) × (d.content ≡ None)) ⊎ (e.start.0 < p)
