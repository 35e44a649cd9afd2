-- Laws of a float's text. In order: sign, first digit, power; the exact form; six decimals and their mark; what is no number; the formats.
use mathlib.Core.Path.{◌≡◌, refl}
use mathlib.Core.Logic.{◌⊎◌, inl, inr, ⊎_elim}
use mathlib.Core.List.{List, [], ◌∷◌, ◌++◌}
use mathlib.Core.Bool.{Bool, true, false}
use Prim.Native.Nat.{ℕ, ◌+◌, ◌-◌, ◌*◌, ◌/◌, ◌%◌, ◌^◌, ◌<◌, ◌≤◌}
use native.Mathlib.Omega.{arith}
use borrow.Author.Tests.{lt-ltb, le-ltb, eq-eqb, ne_eqb}
use lib.ListN.{length, length-append}
use lib.Dec.{ltb, eqb}
use Rattle.facts.proofs.Numbers.{lt-or-ge}
use Rattle.screen_number.specs.Number.{bytes, decimal, hex, minus}
use Rattle.screen_number.proofs.Decimal.{decimal-length}
use Rattle.screen_number.proofs.Laid.{Laid, length-hex}
use Rattle.screen_meaning.specs.Float.{sign, lead, power_of, significand, power_signed, exponent, exact, below, is_exact, millionths}
use Rattle.screen_meaning.specs.Float.{mark, marked, decimals, special, format, finite, binary32, binary64, shown_float}

-- nothing is laid
pub laid_none : (l : List ℕ) (i : ℕ) → Laid l l i i []
laid_none l i = record { end = omega arith; list = refl }

-- sign, first digit, power
pub sign-none : (n : ℕ) → n ≡ 0 → [] ≡ sign n
unfolding sign
sign-none n h = simp (sign, eq-eqb n 0 h)

pub sign-minus : (n : ℕ) → (n ≡ 0 → ⊥) → minus ∷ [] ≡ sign n
unfolding sign
sign-minus n h = simp (sign, ne_eqb n 0 h)

sign-by : (b : Bool) → length {A = ℕ} (elim b [ true ↦ [] | false ↦ minus ∷ [] ]) ≤ 1
sign-by true = omega arith
sign-by false = omega arith

pub sign-length : (n : ℕ) → length (sign n) ≤ 1
unfolding sign
sign-length n = sign-by (eqb n 0)

pub lead_zero : (r : ℕ) → r ≡ 0 → bytes "0" ≡ lead r
unfolding lead
lead_zero r h = simp (lead, eq-eqb r 0 h)

pub lead-one : (r : ℕ) → (r ≡ 0 → ⊥) → bytes "1" ≡ lead r
unfolding lead
lead-one r h = simp (lead, ne_eqb r 0 h)

lead-by : (b : Bool) → length {A = ℕ} (elim b [ true ↦ bytes "0" | false ↦ bytes "1" ]) ≡ 1
unfolding bytes
lead-by true = refl
lead-by false = refl

pub lead-length : (r : ℕ) → length (lead r) ≡ 1
unfolding lead
lead-length r = lead-by (eqb r 0)

pub power-one : (r : ℕ) → r ≡ 0 → 1 ≡ power_of r
unfolding power_of
power-one r h = simp (power_of, eq-eqb r 0 h)

pub power-same : (r : ℕ) → (r ≡ 0 → ⊥) → r ≡ power_of r
unfolding power_of
power-same r h = simp (power_of, ne_eqb r 0 h)

pub significand-low : (u r x : ℕ) → r ≡ 0 → x ≡ significand u r x
unfolding significand
significand-low u r x h = simp (significand, eq-eqb r 0 h)

pub significand-high : (u r x : ℕ) → (r ≡ 0 → ⊥) → u + x ≡ significand u r x
unfolding significand
significand-high u r x h = simp (significand, ne_eqb r 0 h)

significand-by : (b : Bool) (u x : ℕ) → u + x < 2 ^ 53 → elim b [ true ↦ x | false ↦ u + x ] < 2 ^ 53
significand-by true u x h = omega arith
significand-by false u x h = h

pub significand-room : (u r x : ℕ) → u + x < 2 ^ 53 → significand u r x < 2 ^ 53
unfolding significand
significand-room u r x h = significand-by (eqb r 0) u x h

pub power-down : (u d : ℕ) → u < d → bytes "-" ++ decimal (d - u) ≡ power_signed u d
unfolding power_signed bytes
power-down u d h = simp (power_signed, lt-ltb u d h)

pub power-up : (u d : ℕ) → d ≤ u → bytes "+" ++ decimal (u - d) ≡ power_signed u d
unfolding power_signed bytes
power-up u d h = simp (power_signed, le-ltb u d h)

power-by : (b : Bool) (u d : ℕ) → length {A = ℕ} (elim b [ true ↦ minus ∷ decimal (d - u) | false ↦ 43 ∷ decimal (u - d) ]) ≤ 21
power-by true u d = omega (arith, decimal-length (d - u))
power-by false u d = omega (arith, decimal-length (u - d))

power-length : (u d : ℕ) → length (power_signed u d) ≤ 21
unfolding power_signed
power-length u d = power-by (ltb u d) u d

-- the exact form
pub exponent-none : (b r x : ℕ) → r + x ≡ 0 → bytes "+0" ≡ exponent b r x
unfolding exponent
exponent-none b r x h = simp (exponent, eq-eqb (r + x) 0 h)

pub exponent-some : (b r x p : ℕ) → (r + x ≡ 0 → ⊥) → p ≡ power_of r → power_signed p b ≡ exponent b r x
unfolding exponent
exponent-some b r x p h e = rw e (simp (exponent, ne_eqb (r + x) 0 h))

exponent-by : (t : Bool) (y : List ℕ) → length y ≤ 21 → length {A = ℕ} (elim t [ true ↦ bytes "+0" | false ↦ y ]) ≤ 21
unfolding bytes
exponent-by true y h = omega arith
exponent-by false y h = h

pub exponent-length : (b r x : ℕ) → length (exponent b r x) ≤ 21
unfolding exponent
exponent-length b r x = exponent-by (eqb (r + x) 0) (power_signed (power_of r) b) (power-length (power_of r) b)

pub exact-length : (d y b r x : ℕ) → length (exact d y b r x) ≤ 26 + d
unfolding exact bytes
exact-length d y b r x = omega (
  arith,
  length-append (bytes "0x" ++ lead r ++ bytes "." ++ hex d y ++ bytes "p") (exponent b r x),
  length-append (bytes "0x" ++ lead r ++ bytes "." ++ hex d y) (bytes "p"),
  length-append (bytes "0x" ++ lead r ++ bytes ".") (hex d y),
  length-append (bytes "0x" ++ lead r) (bytes "."),
  lead-length r,
  length-hex d y,
  exponent-length b r x,
)

-- six decimals and their mark
pub mark-exact : (b : Bool) → b ≡ true → bytes " =" ≡ mark b
unfolding mark
mark-exact b h = simp (mark, h)

pub mark-rounded : (b : Bool) → b ≡ false → bytes " ~" ≡ mark b
unfolding mark
mark-rounded b h = simp (mark, h)

pub mark-length : (b : Bool) → length (mark b) ≡ 2
unfolding mark bytes
mark-length true = refl
mark-length false = refl

pub decimals-none : (n m u d : ℕ) → below m u d ≡ false → [] ≡ decimals n m u d
unfolding decimals
decimals-none n m u d h = simp (decimals, h)

pub decimals-some : (n m u d : ℕ) (e : Bool) (q : ℕ) → below m u d ≡ true → e ≡ is_exact m u d → q ≡ millionths m u d
    → marked e n q ≡ decimals n m u d
unfolding decimals
decimals-some n m u d e q h k g = rw (k, g) (simp (decimals, h))

-- a number is m * 2 ^ up or m / 2 ^ down
pub one_way : (p l : ℕ) → (p - l ≡ 0) ⊎ (l - p ≡ 0)
one_way p l = ⊎_elim (λ (h : p < l). inl (omega arith)) (λ (h : l ≤ p). inr (omega arith)) (lt-or-ge p l)

-- what is no number
pub special-inf : (n x : ℕ) → x ≡ 0 → sign n ++ bytes "inf" ≡ special n x
unfolding special
special-inf n x h = simp (special, eq-eqb x 0 h)

pub special-nan : (n x : ℕ) → (x ≡ 0 → ⊥) → bytes "nan" ≡ special n x
unfolding special
special-nan n x h = simp (special, ne_eqb x 0 h)

-- the formats
pub top_32 : (n r x : ℕ) → r ≡ 255 → special n x ≡ binary32 n r x
unfolding binary32
top_32 n r x h = simp (binary32, eq-eqb r 255 h)

pub finite-32 : (n r x : ℕ) → (r ≡ 255 → ⊥) → finite (format 6 127 8388608 150) n r x (x * 2) ≡ binary32 n r x
unfolding binary32
finite-32 n r x h = simp (binary32, ne_eqb r 255 h)

pub top_64 : (n r x : ℕ) → r ≡ 2047 → special n x ≡ binary64 n r x
unfolding binary64
top_64 n r x h = simp (binary64, eq-eqb r 2047 h)

pub finite-64 : (n r x : ℕ) → (r ≡ 2047 → ⊥) → finite (format 13 1023 4503599627370496 1075) n r x x ≡ binary64 n r x
unfolding binary64
finite-64 n r x h = simp (binary64, ne_eqb r 2047 h)

pub float-32 : (n v : ℕ) → n ≡ 32 → binary32 (v / 2147483648 % 2) (v / 8388608 % 256) (v % 8388608) ≡ shown_float n v
unfolding shown_float
float-32 n v h = simp (shown_float, eq-eqb n 32 h)

pub float-64 : (n v : ℕ) → (n ≡ 32 → ⊥)
    → binary64 (v / 9223372036854775808 % 2) (v / 4503599627370496 % 2048) (v % 4503599627370496) ≡ shown_float n v
unfolding shown_float
float-64 n v h = simp (shown_float, ne_eqb n 32 h)
