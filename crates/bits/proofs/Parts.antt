-- Laws of a part of a number of bits, over all three widths and for both orders, and of the two shifts by which the code takes it.
use mathlib.Core.Path.{◌≡◌, ◌∙◌}
use mathlib.Core.List.{List}
use Prim.Native.Nat.{ℕ, ◌+◌, ◌-◌, ◌*◌, ◌/◌, ◌%◌, ◌^◌, ◌≤◌}
use native.Mathlib.Nat.{add_comm, mod-one}
use native.Mathlib.Omega.{arith}
use lib.Pow.{high, low, shl-shr, shr-shr, field}
use Rattle.rules.specs.declared.Order.{Order}
use Rattle.rules.specs.declared.Order.TheVariants.{Little, Big}
use Rattle.rules.specs.Bits.{bits}
use Rattle.facts.proofs.Numbers.{shl-cut}
use Rattle.bits.specs.Joined.{part}
use Rattle.bits.proofs.Laws.{bits_below, little-split, big-split}

-- the first n bits, and those behind them
little-first : (s : List ℕ) (p n m : ℕ) → bits Little s p (n + m) % 2 ^ n ≡ bits Little s p n
little-first s p n m = rw (little-split s p n m, add_comm (bits Little s p n)) (low _ n (bits_below Little s p n))

little-behind : (s : List ℕ) (p n m : ℕ) → bits Little s p (n + m) / 2 ^ n ≡ bits Little s (p + n) m
little-behind s p n m = rw (little-split s p n m, add_comm (bits Little s p n)) (high _ n (bits_below Little s p n))

big-first : (s : List ℕ) (p n m : ℕ) → bits Big s p (n + m) / 2 ^ m ≡ bits Big s p n
big-first s p n m = rw (big-split s p n m) (high _ m (bits_below Big s (p + n) m))

big-behind : (s : List ℕ) (p n m : ℕ) → bits Big s p (n + m) % 2 ^ m ≡ bits Big s (p + n) m
big-behind s p n m = rw (big-split s p n m) (low _ m (bits_below Big s (p + n) m))

bits-part : (o : Order) (s : List ℕ) (p n k m : ℕ) → k + m ≤ n → part o (bits o s p n) n k m ≡ bits o s (p + k) m
unfolding part
bits-part Little s p n k m h =
    let all : k + (m + (n - k - m)) ≡ n = omega arith in
    let behind : bits Little s p n / 2 ^ k ≡ bits Little s (p + k) (m + (n - k - m)) =
    rw all at (little-behind s p k (m + (n - k - m))) in
    rw behind (little-first s (p + k) m (n - k - m))
bits-part Big s p n k m h =
    let all : k + m + (n - k - m) ≡ n = omega arith in
    let first : bits Big s p n / 2 ^ (n - k - m) ≡ bits Big s p (k + m) = rw all at (big-first s p (k + m) (n - k - m)) in
    rw first (big-behind s p k m)

-- the bits at a place, of the eight bytes from its own byte on
pub part-of-eight : (o : Order) (s : List ℕ) (p n : ℕ) {v r : ℕ} → p % 8 + n ≤ 64 → v ≡ bits o s (8 * (p / 8)) 64
    → r ≡ part o v 64 (p % 8) n → r ≡ bits o s p n
part-of-eight o s p n h hv hr =
    let at : 8 * (p / 8) + p % 8 ≡ p = omega arith in
    hr ∙ rw hv (rw at at (bits-part o s (8 * (p / 8)) 64 (p % 8) n h))

-- no bits
pub part_none : (o : Order) (v n k : ℕ) → part o v n k 0 ≡ 0
unfolding part
part_none Little v n k = mod-one _
part_none Big v n k = mod-one _

-- what stands above m bits is shifted out, and then the j below them
shifts : (x k j m : ℕ) → k + (m + j) ≡ 64 → (x * 2 ^ k) % 2 ^ 64 / 2 ^ (64 - m) ≡ x / 2 ^ j % 2 ^ m
shifts x k j m h =
    let left : 64 - k ≡ m + j = omega arith in
    let down : 64 - m ≡ k + j = omega arith in
    let cut : (x * 2 ^ k) % 2 ^ 64 ≡ (x % 2 ^ (m + j)) * 2 ^ k = rw left at (shl-cut x k 64 (omega arith)) in
    rw (cut, down, ← shr-shr, shl-shr) (field x m j)

pub part-little : {o : Order} (v k m : ℕ) → o ≡ Little → k + m ≤ 64 → (v * 2 ^ (64 - k - m)) % 2 ^ 64 / 2 ^ (64 - m) ≡ part o v 64 k m
unfolding part
part-little v k m l h = rw l (shifts v (64 - k - m) k m (omega arith))

pub part-big : {o : Order} (v k m : ℕ) → o ≡ Big → k + m ≤ 64 → (v * 2 ^ k) % 2 ^ 64 / 2 ^ (64 - m) ≡ part o v 64 k m
unfolding part
part-big v k m l h = rw l (shifts v k (64 - k - m) m (omega arith))
