-- How bits become a number. A place counts bits from the front of some bytes. (000 6.3.3 to 6.3.6)
use Rattle.std.specs.Prelude.{ℕ, zero, suc, ◌+◌, ◌-◌, ◌*◌, ◌/◌, ◌%◌, ◌^◌, List, true, false, get_or, ℤ, pos, negsuc, ltb}
use Rattle.std.proofs.Math.IntN.{sub_ℕ}
use Rattle.rules.specs.declared.Order.{Order}
use Rattle.rules.specs.declared.Order.TheVariants.{Little, Big}

-- "Little order takes each byte's low bit first, big its high bit first." (Reading; 000 6.3.3)
-- the place's bit within its byte, where 0 is the least significant
unfoldable pub bit_index : Order → ℕ → ℕ
bit_index Little p = p % 8
bit_index Big p = 7 - p % 8

-- the bit at a place, 0 or 1
unfoldable pub bit_at : Order → List ℕ → ℕ → ℕ
bit_at o s p = get_or s (p / 8) 0 / 2 ^ bit_index o p % 2

-- the number of n bits from a place on: the first one is the least significant in little order, and the most in big (000 6.3.3, 6.3.5)
unfoldable pub bits : Order → List ℕ → ℕ → ℕ → ℕ
bits Little s p zero = 0
bits Little s p (suc n) = bits Little s p n + bit_at Little s (p + n) * 2 ^ n
bits Big s p zero = 0
bits Big s p (suc n) = bits Big s p n * 2 + bit_at Big s (p + n)

-- the number v of n bits, read as two's complement (000 6.3.6)
unfoldable pub signed : ℕ → ℕ → ℤ
signed v n = elim (ltb v (2 ^ (n - 1))) [ true ↦ pos v | false ↦ sub_ℕ v (2 ^ n) ]

-- "Signed values are two's complement in 64 bits" (The list)
unfoldable pub word : ℤ → ℕ
word (pos n) = n
word (negsuc n) = 2 ^ 64 - suc n
