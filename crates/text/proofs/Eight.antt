-- Bytes as one number, whose high bits tell whether they are plain. In order: the high bits of n bytes; n bytes of a stream, by the first;
-- that none has its high bit, nor 0x80 less it, just where n plain bytes stand there; eight, as the code asks.
use mathlib.Core.Path.{◌≡◌, refl, sym, ap, ◌∙◌}
use mathlib.Core.Logic.{⊎_elim}
use mathlib.Core.List.{List, ◌∷◌}
use mathlib.Core.Bool.{Bool, true, false}
use Prim.Native.Nat.{ℕ, zero, suc, ◌+◌, ◌-◌, ◌*◌, ◌/◌, ◌^◌, ◌<◌, ◌≤◌}
use native.Mathlib.Numerals.{add-one}
use native.Mathlib.Omega.{arith}
use borrow.Author.Tests.{eqb-true, eqb-false, le-leb, lt-leb}
use lib.Bits.{bit_and, and_zero_r, and_block, and_high}
use lib.Dec.{leb, eqb}
use lib.ListN.{length, get_or, drop}
use lib.Pow.{shr_mod}
use lib.Seq.{drop-cons}
use Rattle.facts.proofs.Numbers.{lt-or-ge}
use Rattle.rules.specs.declared.Order.TheVariants.{Little}
use Rattle.rules.specs.Bits.{bits}
use Rattle.bits.proofs.Bytes.{one_byte}
use Rattle.bits.proofs.Laws.{bits-zero, little-split}
use Rattle.text.specs.Reading.{plain_length}
use Rattle.text.proofs.Plain.{plain-next, plain-some}

-- The high bits of n bytes

unfoldable high : ℕ → ℕ
high zero = 0
high (suc n) = high n * 2 ^ 8 + 0x80

-- those that a number has
abbrev highs : ℕ → ℕ → ℕ
highs n x = bit_and x (high n)

highs-none : (x : ℕ) → highs 0 x ≡ 0
unfolding high
highs-none x = and_zero_r x

-- that of one byte
abbrev top : ℕ → ℕ
top b = b / 2 ^ 7 * 2 ^ 7

top-none : (b : ℕ) → b < 0x80 → top b ≡ 0
top-none b l = omega arith

none-top : (b : ℕ) → top b ≡ 0 → b < 0x80
none-top b e = omega arith

module _ (n x b : ℕ) where
  highs-next : b < 2 ^ 8 → highs (suc n) (x * 2 ^ 8 + b) ≡ highs n x * 2 ^ 8 + top b
  unfolding high
  highs-next l =
      and_block 8 x (high n) b 0x80 l (omega arith)
      ∙ ap (λ k. highs n x * 2 ^ 8 + k) (and_high b 1 7 ∙ ap (λ k. k * 2 ^ 7) (shr_mod 1 7 l))

  -- nothing is borrowed
  less-next : x ≤ high n → b ≤ 0x80 → high (suc n) - (x * 2 ^ 8 + b) ≡ (high n - x) * 2 ^ 8 + (0x80 - b)
  unfolding high
  less-next k l = omega arith

module _ (s : List ℕ) (byte : (i : ℕ) → get_or s i 0 < 2 ^ 8) where
  -- Bytes of a stream, by the first of them

  abbrev first : ℕ → ℕ
  first at = get_or s at 0

  abbrev number : ℕ → ℕ → ℕ
  number at n = bits Little s (8 * at) (8 * n)

  number-next : (at n : ℕ) → number at (suc n) ≡ number (at + 1) n * 2 ^ 8 + first at
  number-next at n =
      let all : 8 * suc n ≡ 8 + 8 * n = omega arith in
      let next : 8 * (at + 1) ≡ 8 * at + 8 = omega arith in
      rw (all, next) (omega (arith, little-split s (8 * at) 8 (8 * n), one_byte Little s at refl (byte at)))

  number-highs : (at n : ℕ) → highs (suc n) (number at (suc n)) ≡ highs n (number (at + 1) n) * 2 ^ 8 + top (first at)
  number-highs at n = ap (highs (suc n)) (number-next at n) ∙ highs-next n _ _ (byte at)

  less-highs : (at n : ℕ) → number (at + 1) n ≤ high n → first at ≤ 0x80
      → highs (suc n) (high (suc n) - number at (suc n)) ≡ highs n (high n - number (at + 1) n) * 2 ^ 8 + top (0x80 - first at)
  less-highs at n k l =
      ap (λ x. highs (suc n) (high (suc n) - x)) (number-next at n)
      ∙ ap (highs (suc n)) (less-next n _ _ k l)
      ∙ highs-next n (high n - number (at + 1) n) (0x80 - first at) (omega arith)

  number-le : (n at : ℕ) → highs n (number at n) ≡ 0 → number at n ≤ high n
  unfolding high
  number-le zero at e = omega (arith, bits-zero Little s (8 * at))
  number-le (suc n) at e =
      let ones = number-highs at n in
      let low = none-top (first at) (omega (arith, e, ones)) in
      omega (arith, number-next at n, low, number-le n (at + 1) (omega (arith, e, ones)))

  plain-first : (at : ℕ) → at < length s → plain_length (drop at s) ≡ plain_length (first at ∷ drop (at + 1) s)
  plain-first at l = ap plain_length (rw (add-one at) (drop-cons s at 0 l))

  -- No byte has its high bit, nor 0x80 less it: n plain bytes stand there

  abbrev Clear : ℕ → ℕ → Type 0
  Clear n at = (highs n (number at n) ≡ 0) × (highs n (high n - number at n) ≡ 0)

  clear-plain : (n at : ℕ) → at + n ≤ length s → Clear n at → n ≤ plain_length (drop at s)
  clear-plain zero at h c = omega arith
  clear-plain (suc n) at h c =
      let ones = number-highs at n in
      let none : highs n (number (at + 1) n) ≡ 0 = omega (arith, c.0, ones) in
      let low = none-top (first at) (omega (arith, c.0, ones)) in
      let less = less-highs at n (number-le n (at + 1) none) (omega arith) in
      let there = none-top (0x80 - first at) (omega (arith, c.1, less)) in
      let rest = clear-plain n (at + 1) (omega arith) (none, omega (arith, c.1, less)) in
      let one = plain-next (first at) (drop (at + 1) s) (λ e. absurd (omega (arith, there))) low in
      omega (arith, plain-first at (omega arith), one, rest)

  plain-clear : (n at : ℕ) → at + n ≤ length s → n ≤ plain_length (drop at s) → Clear n at
  plain-clear zero at h l = (highs-none (number at 0), highs-none (high 0 - number at 0))
  plain-clear (suc n) at h l =
      let same = plain-first at (omega arith) in
      let some = plain-some (first at) (drop (at + 1) s) (omega (arith, l, same)) in
      let rest = plain-clear n (at + 1) (omega arith) (omega (arith, l, same, some.2)) in
      let less = less-highs at n (number-le n (at + 1) rest.0) (omega (arith, some.1)) in (
        omega (arith, number-highs at n, rest.0, top-none (first at) some.1),
        omega (arith, less, rest.1, top-none (0x80 - first at) (omega (arith, some.0))),
      )

  -- Eight, as the code asks

  abbrev HIGH : ℕ
  HIGH = 0x8080808080808080

  abbrev told : ℕ → Bool
  told at = leb 8 (plain_length (drop at s))

  told-not : (at : ℕ) → (8 ≤ plain_length (drop at s) → ⊥) → false ≡ told at
  told-not at c = ⊎_elim (λ l. sym (lt-leb 8 _ l)) (λ l. absurd (c l)) (lt-or-ge (plain_length (drop at s)) 8)

  module _ (at : ℕ) (h : at + 8 ≤ length s) {v : ℕ} (e : v ≡ bits Little s (8 * at) 64) where
    abbrev less : ℕ
    less = bit_and (HIGH - v) HIGH

    pub eight_fits : bit_and v HIGH ≡ 0 → v ≤ HIGH
    unfolding high
    eight_fits c = rw e (number-le 8 at (rw e at c))

    pub eight-high : (bit_and v HIGH ≡ 0 → ⊥) → false ≡ told at
    unfolding high
    eight-high c = told-not at (λ l. c (rw e (plain-clear 8 at h l).0))

    pub eight-low : bit_and v HIGH ≡ 0 → eqb less 0 ≡ told at
    unfolding high
    eight-low c = by (eqb less 0) refl
      where
        by : (test : Bool) → eqb less 0 ≡ test → test ≡ told at
        by true i = sym (le-leb 8 _ (clear-plain 8 at h (rw e at c, rw e at (eqb-true less 0 i))))
        by false i = told-not at (λ l. eqb-false less 0 i (rw e (plain-clear 8 at h l).1))
