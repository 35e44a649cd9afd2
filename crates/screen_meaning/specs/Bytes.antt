-- Bytes and bits in hexadecimal.
use Rattle.std.specs.Prelude.{ℕ, ◌+◌, ◌-◌, ◌/◌, List, [], ◌∷◌, ◌++◌, true, false, length, take, ltb}
use Rattle.screen_number.specs.Number.{bytes, decimal, hex}

-- two digits a byte
unfoldable pub hexes : List ℕ → List ℕ
hexes [] = []
hexes (c ∷ s) = hex 2 c ++ hexes s

-- a BLOB: its first 32 bytes, and how many there are more
unfoldable pub more : ℕ → List ℕ
more n = bytes " + " ++ decimal (n - 32) ++ bytes " bytes"

unfoldable pub blob : List ℕ → List ℕ
blob b = elim (ltb 32 (length b)) [ true ↦ hexes (take 32 b) ++ more (length b) | false ↦ hexes b ]

-- a bit array of so many bits: a digit for each four; a value has 16 digits at most
unfoldable pub digits_of : ℕ → ℕ
digits_of n = elim (ltb 60 n) [ true ↦ 16 | false ↦ (n + 3) / 4 ]

unfoldable pub bit_array : ℕ → ℕ → List ℕ
bit_array n v = bytes "0x" ++ hex (digits_of n) v
