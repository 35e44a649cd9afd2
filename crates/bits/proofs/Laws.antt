-- Laws of the number of n bits, over n and for both orders. In order: its size; its parts; the part in one byte; the code's two joins.
use mathlib.Core.Path.{◌≡◌, refl, sym, ◌∙◌}
use mathlib.Core.List.{List}
use Prim.Native.Nat.{ℕ, zero, suc, ◌+◌, ◌-◌, ◌*◌, ◌/◌, ◌%◌, ◌^◌, ◌<◌, ◌≤◌}
use native.Mathlib.Nat.{mod-lt, pow-suc, add_comm, add_assoc, add-zero, add-suc, mul_assoc, add-mul, zero-mul, mul-one}
use native.Mathlib.Nat.{mul_comm, mod-one, lt_of_lt_of_le}
use native.Mathlib.Omega.{arith}
use lib.Dec.{lit<}
use lib.ListN.{get_or}
use lib.Arith.{digits_lt}
use lib.Pow.{pow-add, pow_mono, shr-shr, shl_exact}
use Rattle.rules.specs.declared.Order.{Order}
use Rattle.rules.specs.declared.Order.TheVariants.{Little, Big}
use Rattle.rules.specs.Bits.{bit_index, bit_at, bits}
use Rattle.facts.proofs.Numbers.{mod-suc-low, mod-suc-high}
use Rattle.bits.specs.Joined.{joined}

pub bit_below : (o : Order) (s : List ℕ) (p : ℕ) → bit_at o s p < 2
unfolding bit_at
bit_below o s p = mod-lt _ (lit< tt)

pub bits-zero : (o : Order) (s : List ℕ) (p : ℕ) → bits o s p 0 ≡ 0
unfolding bits
bits-zero Little s p = refl
bits-zero Big s p = refl

pub bits_below : (o : Order) (s : List ℕ) (p n : ℕ) → bits o s p n < 2 ^ n
unfolding bits
bits_below Little s p zero = lit< tt
bits_below Little s p (suc n) = omega (arith, pow-suc 2 n, digits_lt (bit_below Little s (p + n)) (bits_below Little s p n))
bits_below Big s p zero = lit< tt
bits_below Big s p (suc n) = rw pow-suc (digits_lt (bits_below Big s p n) (bit_below Big s (p + n)))

-- n bits, and then m bits
shift-twice : (b n m : ℕ) → b * 2 ^ (n + m) ≡ b * 2 ^ m * 2 ^ n
shift-twice b n m = rw (pow-add 2 n m, mul_comm (2 ^ n) (2 ^ m)) (sym (mul_assoc b (2 ^ m) (2 ^ n)))

pub little-split : (s : List ℕ) (p n m : ℕ) → bits Little s p (n + m) ≡ bits Little s p n + bits Little s (p + n) m * 2 ^ n
unfolding bits
little-split s p n zero = simp (add-zero, zero-mul)
little-split s p n (suc m) =
    let first : bits Little s p (n + suc m) ≡ bits Little s p (n + m) + bit_at Little s (p + (n + m)) * 2 ^ (n + m) = rw add-suc in
    let last : bit_at Little s (p + (n + m)) * 2 ^ (n + m) ≡ bit_at Little s (p + n + m) * 2 ^ m * 2 ^ n =
    rw (add_assoc p n m) (shift-twice (bit_at Little s (p + (n + m))) n m) in
    omega (arith, little-split s p n m, add-mul (bits Little s (p + n) m) (bit_at Little s (p + n + m) * 2 ^ m) (2 ^ n))

pub big-split : (s : List ℕ) (p n m : ℕ) → bits Big s p (n + m) ≡ bits Big s p n * 2 ^ m + bits Big s (p + n) m
unfolding bits
big-split s p n zero = simp (add-zero, mul-one)
big-split s p n (suc m) =
    let first : bits Big s p (n + suc m) ≡ bits Big s p (n + m) * 2 + bit_at Big s (p + n + m) = rw (add-suc, add_assoc) in
    let twice : bits Big s p n * 2 ^ suc m ≡ bits Big s p n * 2 ^ m * 2 = simp (pow-suc, mul_assoc) in
    omega (arith, big-split s p n m)

pub bits-split : (o : Order) (s : List ℕ) (p n m : ℕ) → bits o s p (n + m) ≡ joined o (bits o s p n) n (bits o s (p + n) m) m
unfolding joined
bits-split Little s p n m = little-split s p n m
bits-split Big s p n m = big-split s p n m

-- the bits of one byte
pub little-piece : (s : List ℕ) (p n : ℕ) → p % 8 + n ≤ 8 → bits Little s p n ≡ get_or s (p / 8) 0 / 2 ^ (p % 8) % 2 ^ n
unfolding bits bit_at bit_index
little-piece s p zero h = sym (mod-one _)
little-piece s p (suc n) h =
    let byte : (p + n) / 8 ≡ p / 8 = omega arith in
    let bit : (p + n) % 8 ≡ p % 8 + n = omega arith in
    rw (byte, bit, ← shr-shr, mod-suc-high, little-piece s p n (omega arith)) (add_comm _ _)

pub big-piece : (s : List ℕ) (p n : ℕ) → p % 8 + n ≤ 8 → bits Big s p n ≡ get_or s (p / 8) 0 / 2 ^ (8 - p % 8 - n) % 2 ^ n
unfolding bits bit_at bit_index
big-piece s p zero h = sym (mod-one _)
big-piece s p (suc n) h =
    let x = get_or s (p / 8) 0 in
    let k = 8 - p % 8 - suc n in
    let byte : (p + n) / 8 ≡ p / 8 = omega arith in
    let bit : 7 - (p + n) % 8 ≡ k = omega arith in
    let above : 8 - p % 8 - n ≡ k + 1 = omega arith in
    let rest : bits Big s p n ≡ x / 2 ^ k / 2 % 2 ^ n = big-piece s p n (omega arith) ∙ rw (above, ← shr-shr x k 1) in
    rw (byte, bit, rest) (sym (mod-suc-low (x / 2 ^ k) n))

-- one turn of the walk
pub bits-join : (o : Order) (s : List ℕ) (p n m : ℕ) {v w : ℕ} → v ≡ bits o s p n → w ≡ bits o s (p + n) m
    → joined o v n w m ≡ bits o s p (n + m)
bits-join o s p n m hv hw = rw (hv, hw) (sym (bits-split o s p n m))

pub joined-fits : (o : Order) (v n w m : ℕ) → n + m ≤ 64 → v < 2 ^ n → w < 2 ^ m → joined o v n w m < 2 ^ 64
unfolding joined
joined-fits Little v n w m h hv hw =
    lt_of_lt_of_le (rw (pow-add 2 n m) (omega (arith, digits_lt hw hv, mul_comm (2 ^ n) (2 ^ m)))) (pow_mono h)
joined-fits Big v n w m h hv hw = lt_of_lt_of_le (rw (pow-add 2 n m) (digits_lt hv hw)) (pow_mono h)

-- no shift loses a bit
pub joined-little : {o : Order} (v n w m : ℕ) → o ≡ Little → n + m ≤ 64 → w < 2 ^ m → v + (w * 2 ^ n) % 2 ^ 64 ≡ joined o v n w m
unfolding joined
joined-little v n w m l h hw = rw (l, shl_exact m n 64 hw (omega arith))

pub joined-big : {o : Order} (v n w m : ℕ) → o ≡ Big → n + m ≤ 64 → v < 2 ^ n → (v * 2 ^ m) % 2 ^ 64 + w ≡ joined o v n w m
unfolding joined
joined-big v n w m l h hv = rw (l, shl_exact n m 64 hv h)
