-- LEB128, as in the DWARF standard: seven bits a byte, the least significant first; the last byte is below 128.
-- "LEB128 takes at most 10 bytes and must fit 64 bits; padded forms are accepted." (Reading; 000 6.3.8 to 6.3.10)
use Rattle.std.specs.Prelude.{ℕ, zero, suc, ◌+◌, ◌*◌, ◌%◌, ◌^◌, List, [], ◌∷◌, Bool, true, false, ltb, ℤ, pos, negsuc}
use Rattle.rules.specs.declared.ByteLength.{ByteLength}
use Rattle.rules.specs.declared.Leb.{Leb}
use Rattle.rules.specs.declared.Leb.TheVariants.{Value, Past, Large}
use Rattle.rules.specs.Limits.{leb_limit}
use Rattle.rules.specs.Place.{byte_length}
use Rattle.rules.specs.Bits.{signed, word}

-- one byte's seven bits below a number
unfoldable pub below : ℕ → Leb → Leb
below b (Value v n) = Value (b + 128 * v) (byte_length (n.0 + 1))
below b Past = Past
below b Large = Large

-- the number of at most so many bytes of a list, before it is held to 64 bits
unfoldable pub sevens : ℕ → List ℕ → Leb
sevens zero bs = Large
sevens (suc n) [] = Past
sevens (suc n) (b ∷ bs) = elim (ltb b 128) [ true ↦ Value b (byte_length 1) | false ↦ below (b % 128) (sevens n bs) ]

unfoldable pub fit_unsigned : Leb → Leb
fit_unsigned (Value v n) = elim (ltb v (2 ^ 64)) [ true ↦ Value v n | false ↦ Large ]
fit_unsigned Past = Past
fit_unsigned Large = Large

-- the bits of a number's bytes: "7 times its bytes for LEB128" (Reading; 000 6.2.1, step 1)
abbrev pub leb_width : ByteLength → ℕ
leb_width n = 7 * n.0

-- whether an integer has a word of 64 bits
unfoldable pub fits64 : ℤ → Bool
fits64 (pos v) = ltb v (2 ^ 63)
fits64 (negsuc v) = ltb v (2 ^ 63)

unfoldable pub signed_value : ℤ → ByteLength → Leb
signed_value z n = elim (fits64 z) [ true ↦ Value (word z) n | false ↦ Large ]

unfoldable pub fit_signed : Leb → Leb
fit_signed (Value v n) = signed_value (signed v (leb_width n)) n
fit_signed Past = Past
fit_signed Large = Large

unfoldable pub leb_unsigned : List ℕ → Leb
leb_unsigned bs = fit_unsigned (sevens leb_limit bs)

unfoldable pub leb_signed : List ℕ → Leb
leb_signed bs = fit_signed (sevens leb_limit bs)
