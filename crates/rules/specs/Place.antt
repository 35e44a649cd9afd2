-- Places and lengths. "Bit places and byte lengths must not be mixed." (Reading) Each is a type of its own, made here.
use Rattle.std.specs.Prelude.{ℕ, ◌+◌, ◌-◌, ◌*◌, ◌/◌}
use Rattle.rules.specs.declared.BitPlace.{BitPlace}
use Rattle.rules.specs.declared.ByteLength.{ByteLength}

abbrev pub bit_place : ℕ → BitPlace
bit_place p = record { 0 = p }

abbrev pub byte_length : ℕ → ByteLength
byte_length n = record { 0 = n }

-- so many bits on
abbrev pub further : BitPlace → ℕ → BitPlace
further p n = bit_place (p.0 + n)

-- the least multiple of a that is at least x
unfoldable pub round_up : ℕ → ℕ → ℕ
round_up a x = (x + (a - 1)) / a * a

-- "A field aligns (place - P) up to its requirement": from the packet's start and not the stream's (Reading; 000 6.3.1)
unfoldable pub align_from : ℕ → ℕ → ℕ → ℕ
align_from start a place = start + round_up a (place - start)
