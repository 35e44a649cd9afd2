-- Where an entry's bytes begin in a stream of so many, and how many of them it has.
use Rattle.std.specs.Prelude.{ℕ, ◌-◌, ◌/◌, true, false, ltb}

unfoldable pub least : ℕ → ℕ → ℕ
least a b = elim (ltb a b) [ true ↦ a | false ↦ b ]

unfoldable pub from_in : ℕ → ℕ → ℕ
from_in size p = least size (p / 8)

unfoldable pub bytes_in : ℕ → ℕ → ℕ → ℕ
bytes_in size p n = least (size - from_in size p) n
