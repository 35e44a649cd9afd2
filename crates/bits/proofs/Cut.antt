-- A number of bits is that of its own bytes: it stays the same in a stream that is cut in front, so many places lower, or behind.
use mathlib.Core.Path.{◌≡◌, refl}
use mathlib.Core.List.{List}
use Prim.Native.Nat.{ℕ, zero, suc, ◌+◌, ◌*◌, ◌/◌, ◌<◌, ◌≤◌}
use native.Mathlib.Nat.{add_assoc}
use native.Mathlib.Omega.{arith}
use lib.ListN.{take, drop}
use lib.Seq.{get_or-drop, get_or-take}
use Rattle.rules.specs.declared.Order.{Order}
use Rattle.rules.specs.declared.Order.TheVariants.{Little, Big}
use Rattle.rules.specs.Bits.{bit_index, bit_at, bits}

index-later : (o : Order) (k p : ℕ) → bit_index o (8 * k + p) ≡ bit_index o p
unfolding bit_index
index-later Little k p = omega arith
index-later Big k p = omega arith

bit-drop : (o : Order) (s : List ℕ) (k p : ℕ) → bit_at o (drop k s) p ≡ bit_at o s (8 * k + p)
unfolding bit_at
bit-drop o s k p = let byte : (8 * k + p) / 8 ≡ k + p / 8 = omega arith in rw (get_or-drop k s (p / 8) 0, byte, index-later o k p)

pub bits-drop : (o : Order) (s : List ℕ) (k p n : ℕ) → bits o (drop k s) p n ≡ bits o s (8 * k + p) n
unfolding bits
bits-drop Little s k p zero = refl
bits-drop Little s k p (suc n) = rw (bits-drop Little s k p n, bit-drop Little s k (p + n), add_assoc (8 * k) p n)
bits-drop Big s k p zero = refl
bits-drop Big s k p (suc n) = rw (bits-drop Big s k p n, bit-drop Big s k (p + n), add_assoc (8 * k) p n)

bit-take : (o : Order) (s : List ℕ) (k p : ℕ) → p < 8 * k → bit_at o (take k s) p ≡ bit_at o s p
unfolding bit_at
bit-take o s k p h = let within : p / 8 < k = omega arith in rw (get_or-take k s (p / 8) 0 within)

pub bits-take : (o : Order) (s : List ℕ) (k p n : ℕ) → p + n ≤ 8 * k → bits o (take k s) p n ≡ bits o s p n
unfolding bits
bits-take Little s k p zero h = refl
bits-take Little s k p (suc n) h = rw (bits-take Little s k p n (omega arith), bit-take Little s k (p + n) (omega arith))
bits-take Big s k p zero h = refl
bits-take Big s k p (suc n) h = rw (bits-take Big s k p n (omega arith), bit-take Big s k (p + n) (omega arith))
