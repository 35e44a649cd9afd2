-- The bytes of a string before its first zero byte. (000 6.3.11, 6.3.12)
use Rattle.rules.specs.declared.ByteLength.{ByteLength}
use Rattle.std.specs.Prelude.{ℕ, zero, suc, ◌+◌, List, [], ◌∷◌, Bool, true, false, ◌&&◌, take, leb, Option, None, Some}
use Rattle.rules.specs.Place.{byte_length}

-- "the value is the count before the first zero byte, or of all" (Reading)
unfoldable pub text_length : List ℕ → ℕ
text_length [] = 0
text_length (zero ∷ bs) = 0
text_length (suc b ∷ bs) = text_length bs + 1

unfoldable pub one_later : Option ByteLength → Option ByteLength
one_later (Some n) = Some (byte_length (n.0 + 1))
one_later None = None

-- the bytes before the zero byte; "no zero byte before the bound" (25)
unfoldable pub zero_at : List ℕ → Option ByteLength
zero_at [] = None
zero_at (zero ∷ bs) = Some (byte_length 0)
zero_at (suc b ∷ bs) = one_later (zero_at bs)

-- Well-formed UTF-8. "must be well-formed UTF-8 as RFC 3629 says" (02, 1)

-- a character by its first byte: its range, how many bytes follow, and the range of the first of these; the others are 80 to BF
pub record Row : Type 0 where
  pub first : ℕ
  pub last : ℕ
  pub more : ℕ
  pub low : ℕ
  pub high : ℕ

abbrev pub row : ℕ → ℕ → ℕ → ℕ → ℕ → Row
row a z n l h = record { first = a; last = z; more = n; low = l; high = h }

-- RFC 3629, section 4: UTF8-1, UTF8-2, UTF8-3 and UTF8-4
unfoldable pub rows : List Row
rows =
    row 0x00 0x7F 0 0x80 0xBF
    ∷ row 0xC2 0xDF 1 0x80 0xBF
    ∷ row 0xE0 0xE0 2 0xA0 0xBF
    ∷ row 0xE1 0xEC 2 0x80 0xBF
    ∷ row 0xED 0xED 2 0x80 0x9F
    ∷ row 0xEE 0xEF 2 0x80 0xBF
    ∷ row 0xF0 0xF0 3 0x90 0xBF
    ∷ row 0xF1 0xF3 3 0x80 0xBF
    ∷ row 0xF4 0xF4 3 0x80 0x8F
    ∷ []

unfoldable pub row_of : List Row → ℕ → Option Row
row_of [] b = None
row_of (r ∷ rs) b = elim (leb r.first b && leb b r.last) [ true ↦ Some r | false ↦ row_of rs b ]

-- characters, where so many bytes of one are still to come, the next of them within a range
unfoldable pub utf8_from : ℕ → ℕ → ℕ → List ℕ → Bool
utf8_from zero l h [] = true
utf8_from (suc n) l h [] = false
utf8_from zero l h (b ∷ bs) = elim (row_of rows b) [ None ↦ false | Some r ↦ utf8_from r.more r.low r.high bs ]
utf8_from (suc n) l h (b ∷ bs) = leb l b && leb b h && utf8_from n 0x80 0xBF bs

unfoldable pub utf8 : List ℕ → Bool
utf8 x = utf8_from 0 0 0 x

-- "The bytes of string kinds 23, 24 and 26 before their first zero byte"
unfoldable pub is_text : List ℕ → Bool
is_text x = utf8 (take (text_length x) x)
