-- Laws of whole bytes, for both orders. In order: one byte; n bytes and then n, as the code adds them up, what counts least first; two,
-- four and eight, as they add up in either order; a place on a byte boundary.
use mathlib.Core.Path.{◌≡◌, refl, sym, ◌∙◌}
use mathlib.Core.List.{List}
use Prim.Native.Nat.{ℕ, ◌+◌, ◌*◌, ◌/◌, ◌%◌, ◌^◌, ◌<◌}
use native.Mathlib.Nat.{add_comm, mod-eq_of_lt, div-one}
use native.Mathlib.Omega.{arith}
use lib.ListN.{get_or}
use Rattle.rules.specs.declared.Order.{Order}
use Rattle.rules.specs.declared.Order.TheVariants.{Little, Big}
use Rattle.rules.specs.Bits.{bits}
use Rattle.bits.specs.Joined.{joined}
use Rattle.bits.proofs.Laws.{little-piece, big-piece, bits-join}

pub one_byte : (o : Order) (s : List ℕ) (i : ℕ) {v : ℕ} → v ≡ get_or s i 0 → v < 2 ^ 8 → v ≡ bits o s (8 * i) 8
one_byte o s i hv h = hv ∙ alone o (rw hv at h)
  where
    start : 8 * i % 8 ≡ 0
    start = omega arith

    own : 8 * i / 8 ≡ i
    own = omega arith

    alone : (o : Order) → get_or s i 0 < 2 ^ 8 → get_or s i 0 ≡ bits o s (8 * i) 8
    alone Little h = rw (little-piece s (8 * i) 8 (omega (arith, start)), start, own, div-one) (sym (mod-eq_of_lt h))
    alone Big h = rw (big-piece s (8 * i) 8 (omega (arith, start)), start, own, div-one) (sym (mod-eq_of_lt h))

-- n bytes, and then n bytes
twice : (o : Order) (s : List ℕ) (i n : ℕ) {v w : ℕ} → v ≡ bits o s (8 * i) (8 * n) → w ≡ bits o s (8 * (i + n)) (8 * n)
    → joined o v (8 * n) w (8 * n) ≡ bits o s (8 * i) (8 * (n + n))
twice o s i n hv hw =
    let next : 8 * (i + n) ≡ 8 * i + 8 * n = omega arith in
    let all : 8 * (n + n) ≡ 8 * n + 8 * n = omega arith in
    rw all (bits-join o s (8 * i) (8 * n) (8 * n) hv (rw (← next) hw))

pub twice-little : {o : Order} (s : List ℕ) (i n : ℕ) {v w : ℕ} → o ≡ Little
    → v ≡ bits o s (8 * i) (8 * n) → w ≡ bits o s (8 * (i + n)) (8 * n) → v + w * 2 ^ (8 * n) ≡ bits o s (8 * i) (8 * (n + n))
unfolding joined
twice-little {o} s i n {v} {w} l hv hw = low_first ∙ twice o s i n hv hw
  where
    low_first : v + w * 2 ^ (8 * n) ≡ joined o v (8 * n) w (8 * n)
    low_first = rw l

pub twice-big : {o : Order} (s : List ℕ) (i n : ℕ) {v w : ℕ} → o ≡ Big
    → v ≡ bits o s (8 * i) (8 * n) → w ≡ bits o s (8 * (i + n)) (8 * n) → w + v * 2 ^ (8 * n) ≡ bits o s (8 * i) (8 * (n + n))
unfolding joined
twice-big {o} s i n {v} {w} l hv hw = low_first ∙ twice o s i n hv hw
  where
    low_first : w + v * 2 ^ (8 * n) ≡ joined o v (8 * n) w (8 * n)
    low_first = rw l (add_comm _ _)

-- bytes as they add up
module _ (s : List ℕ) (h : (k : ℕ) → get_or s k 0 < 2 ^ 8) where
  abbrev byte : ℕ → ℕ
  byte k = get_or s k 0

  alone : (o : Order) (i : ℕ) → byte i ≡ bits o s (8 * i) 8
  alone o i = one_byte o s i refl (h i)

  pub two-little : (i : ℕ) → byte i + byte (i + 1) * 2 ^ 8 ≡ bits Little s (8 * i) 16
  two-little i = twice-little s i 1 refl (alone Little i) (alone Little (i + 1))

  pub two-big : (i : ℕ) → byte i * 2 ^ 8 + byte (i + 1) ≡ bits Big s (8 * i) 16
  two-big i = add_comm _ _ ∙ twice-big s i 1 refl (alone Big i) (alone Big (i + 1))

  pub four-little : (i : ℕ) → byte i + byte (i + 1) * 2 ^ 8 + byte (i + 2) * 2 ^ 16 + byte (i + 3) * 2 ^ 24 ≡ bits Little s (8 * i) 32
  four-little i =
      let third : i + 2 + 1 ≡ i + 3 = omega arith in
      let both = rw third at (twice-little s i 2 refl (two-little i) (two-little (i + 2))) in omega (arith, both)

  pub four-big : (i : ℕ) → byte i * 2 ^ 24 + byte (i + 1) * 2 ^ 16 + byte (i + 2) * 2 ^ 8 + byte (i + 3) ≡ bits Big s (8 * i) 32
  four-big i =
      let third : i + 2 + 1 ≡ i + 3 = omega arith in
      let both = rw third at (twice-big s i 2 refl (two-big i) (two-big (i + 2))) in omega (arith, both)

  pub eight-little : (i : ℕ)
      → byte i + byte (i + 1) * 2 ^ 8 + byte (i + 2) * 2 ^ 16 + byte (i + 3) * 2 ^ 24 + byte (i + 4) * 2 ^ 32 + byte (i + 5) * 2 ^ 40
      + byte (i + 6) * 2 ^ 48 + byte (i + 7) * 2 ^ 56 ≡ bits Little s (8 * i) 64
  eight-little i =
      let five : i + 4 + 1 ≡ i + 5 = omega arith in
      let six : i + 4 + 2 ≡ i + 6 = omega arith in
      let seven : i + 4 + 3 ≡ i + 7 = omega arith in
      let both = rw (five, six, seven) at (twice-little s i 4 refl (four-little i) (four-little (i + 4))) in omega (arith, both)

  pub eight-big : (i : ℕ)
      → byte i * 2 ^ 56 + byte (i + 1) * 2 ^ 48 + byte (i + 2) * 2 ^ 40 + byte (i + 3) * 2 ^ 32 + byte (i + 4) * 2 ^ 24
      + byte (i + 5) * 2 ^ 16 + byte (i + 6) * 2 ^ 8 + byte (i + 7) ≡ bits Big s (8 * i) 64
  eight-big i =
      let five : i + 4 + 1 ≡ i + 5 = omega arith in
      let six : i + 4 + 2 ≡ i + 6 = omega arith in
      let seven : i + 4 + 3 ≡ i + 7 = omega arith in
      let both = rw (five, six, seven) at (twice-big s i 4 refl (four-big i) (four-big (i + 4))) in omega (arith, both)

-- a place on a byte boundary
pub on-boundary : (o : Order) (s : List ℕ) (p n : ℕ) {v m : ℕ} → p % 8 ≡ 0 → n ≡ m → v ≡ bits o s (8 * (p / 8)) m → v ≡ bits o s p n
on-boundary o s p n z e hv =
    let at : 8 * (p / 8) ≡ p = omega arith in
    rw (← at, e) hv
