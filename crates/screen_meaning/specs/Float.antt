-- A float's bits as a number: its exact value in hexadecimal, as C's %a has it and reads it, and, where it is below 10 to the 12, six
-- decimals, behind `=` where they are exact and behind `~` where they are rounded, half up.
use Rattle.std.specs.Prelude.{ℕ, ◌+◌, ◌-◌, ◌*◌, ◌/◌, ◌%◌, ◌^◌, List, [], ◌∷◌, ◌++◌, Bool, true, false, ltb, eqb}
use Rattle.screen_number.specs.Number.{bytes, decimal, hex, zeros, minus}

unfoldable pub sign : ℕ → List ℕ
sign n = elim (eqb n 0) [ true ↦ [] | false ↦ minus ∷ [] ]

-- Of an exponent as it is written: the first digit, and the power of two
unfoldable pub lead : ℕ → List ℕ
lead r = elim (eqb r 0) [ true ↦ bytes "0" | false ↦ bytes "1" ]

unfoldable pub power_of : ℕ → ℕ
power_of r = elim (eqb r 0) [ true ↦ 1 | false ↦ r ]

-- the fraction's bits, behind a one where the exponent is not 0
unfoldable pub significand : ℕ → ℕ → ℕ → ℕ
significand unit r x = elim (eqb r 0) [ true ↦ x | false ↦ unit + x ]

-- a power of two: up, or down
unfoldable pub power_signed : ℕ → ℕ → List ℕ
power_signed up down = elim (ltb up down) [ true ↦ minus ∷ decimal (down - up) | false ↦ 43 ∷ decimal (up - down) ]

unfoldable pub exponent : ℕ → ℕ → ℕ → List ℕ
exponent bias r x = elim (eqb (r + x) 0) [ true ↦ bytes "+0" | false ↦ power_signed (power_of r) bias ]

-- so many digits; the fraction filled to whole digits by zeros
unfoldable pub exact : ℕ → ℕ → ℕ → ℕ → ℕ → List ℕ
exact digits filled bias r x = bytes "0x" ++ lead r ++ bytes "." ++ hex digits filled ++ bytes "p" ++ exponent bias r x

-- Six decimals of m * 2 ^ up / 2 ^ down: millionths, as a fraction of two numbers, and to the nearest one, half up
unfoldable pub over : ℕ → ℕ → ℕ
over m up = m * 2 ^ up * 10 ^ 6

unfoldable pub millionths : ℕ → ℕ → ℕ → ℕ
millionths m up down = (2 * over m up + 2 ^ down) / (2 * 2 ^ down)

unfoldable pub below : ℕ → ℕ → ℕ → Bool
below m up down = ltb (over m up) (10 ^ 18 * 2 ^ down)

unfoldable pub is_exact : ℕ → ℕ → ℕ → Bool
is_exact m up down = eqb (over m up % 2 ^ down) 0

unfoldable pub mark : Bool → List ℕ
mark true = bytes " ="
mark false = bytes " ~"

unfoldable pub six_decimals : ℕ → List ℕ
six_decimals q = decimal (q / 10 ^ 6) ++ bytes "." ++ zeros 6 (q % 10 ^ 6)

unfoldable pub marked : Bool → ℕ → ℕ → List ℕ
marked exactly negative q = mark exactly ++ sign negative ++ six_decimals q

unfoldable pub decimals : ℕ → ℕ → ℕ → ℕ → List ℕ
decimals negative m up down =
    elim (below m up down) [ true ↦ marked (is_exact m up down) negative (millionths m up down) | false ↦ [] ]

-- an exponent of ones
unfoldable pub special : ℕ → ℕ → List ℕ
special negative x = elim (eqb x 0) [ true ↦ sign negative ++ bytes "inf" | false ↦ bytes "nan" ]

-- A format (IEEE 754): digits of the fraction in base 16, what an exponent is less by, the one before the fraction, and the exponent of
-- the fraction's last bit
pub record Format : Type 0 where
  pub digits : ℕ
  pub bias : ℕ
  pub unit : ℕ
  pub low : ℕ

abbrev pub format : ℕ → ℕ → ℕ → ℕ → Format
format d b u l = record { digits = d; bias = b; unit = u; low = l }

-- a number by its sign, its exponent as it is written, its fraction, and the fraction filled to whole digits by zeros
unfoldable pub finite : Format → ℕ → ℕ → ℕ → ℕ → List ℕ
finite f negative r x filled =
    sign negative ++ exact f.digits filled f.bias r x
    ++ decimals negative (significand f.unit r x) (power_of r - f.low) (f.low - power_of r)

unfoldable pub binary32 : ℕ → ℕ → ℕ → List ℕ
binary32 negative r x =
    elim (eqb r 255) [ true ↦ special negative x | false ↦ finite (format 6 127 (2 ^ 23) 150) negative r x (x * 2) ]

unfoldable pub binary64 : ℕ → ℕ → ℕ → List ℕ
binary64 negative r x =
    elim (eqb r 2047) [ true ↦ special negative x | false ↦ finite (format 13 1023 (2 ^ 52) 1075) negative r x x ]

-- a word of so many bits: sign, exponent, fraction
unfoldable pub shown_float : ℕ → ℕ → List ℕ
shown_float n v =
    elim (eqb n 32) [
      | true ↦ binary32 (v / 2 ^ 31 % 2) (v / 2 ^ 23 % 256) (v % 2 ^ 23)
      | false ↦ binary64 (v / 2 ^ 63 % 2) (v / 2 ^ 52 % 2048) (v % 2 ^ 52)
    ]
