-- The clock after a stamp of L bits. (000 6.2.1)
use Rattle.std.specs.Prelude.{ℕ, ◌+◌, ◌-◌, ◌%◌, ◌^◌, true, false, ltb, Option, None, Some}

-- "the advance is the timestamp minus the old low bits, modulo 2 to the L" (Reading)
unfoldable pub advance : ℕ → ℕ → ℕ → ℕ
advance clock l stamp = (stamp + 2 ^ l - clock % 2 ^ l) % 2 ^ l

-- the new clock; none where it is "above 64 bits" (36)
unfoldable pub clock_after : ℕ → ℕ → ℕ → Option ℕ
clock_after clock l stamp =
    elim (ltb (clock + advance clock l stamp) (2 ^ 64)) [ true ↦ Some (clock + advance clock l stamp) | false ↦ None ]
