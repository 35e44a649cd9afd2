-- The standard's own procedures for fixed-length bit arrays and integers, step by step (000 6.3.3, 6.3.5, 6.3.6).
use Rattle.std.specs.Prelude.{ℕ, zero, suc, ◌+◌, ◌-◌, ◌*◌, ◌^◌, List, [], ◌∷◌, Bool, true, false, eqb, ℤ, length, set}
use Rattle.std.proofs.Math.IntN.{sub_ℕ}
use Rattle.rules.specs.declared.Order.{Order}
use Rattle.rules.specs.declared.Order.TheVariants.{Little, Big}
use Rattle.rules.specs.Bits.{bit_at}

-- 6.3.3, step 4.1: the index VI at which turn I of L sets its bit. For big order the standard says 0, so that all bits would be set at
-- one index; it must be I
unfoldable pub index : Order → ℕ → ℕ → ℕ
index Little l i = l - i - 1
index Big l i = i

-- 6.3.3, step 4: the array V of L booleans after I turns
unfoldable pub turns : Order → List ℕ → ℕ → ℕ → List Bool → ℕ → List Bool
turns o s p l v zero = v
turns o s p l v (suc i) = set (turns o s p l v i) (index o l i) (eqb (bit_at o s (p + i)) 1)

-- 6.3.5: "the unsigned integer interpretation of V, where the first element of V is the most significant bit"
unfoldable pub digit : Bool → ℕ
digit true = 1
digit false = 0

unfoldable pub unsigned_of : List Bool → ℕ
unsigned_of [] = 0
unsigned_of (b ∷ v) = digit b * 2 ^ length v + unsigned_of v

-- 6.3.6: the same "following the two's complement format": the most significant bit counts below zero
unfoldable pub signed_of : List Bool → ℤ
signed_of [] = sub_ℕ 0 0
signed_of (b ∷ v) = sub_ℕ (unsigned_of v) (digit b * 2 ^ length v)
