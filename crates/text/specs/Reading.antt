-- What bytes say as text, as the code passes over them.
use Rattle.std.specs.Prelude.{ℕ, zero, suc, ◌+◌, List, [], ◌∷◌, Bool, not, nat_eq, nat_lt, true, false, ◌&&◌, ltb, leb, Option, None, Some}
use Rattle.rules.specs.Place.{byte_length}
use Rattle.rules.specs.Text.{text_length, Row, rows, row_of, is_text}
use Rattle.text.specs.declared.Text.{Text}
use Rattle.text.specs.declared.Due.{Due}

-- "the count before the first zero byte, or of all" (Reading); and whether these are well-formed (02, 1)
unfoldable pub text_of : List ℕ → Text
text_of b = record { count = byte_length (text_length b); formed = is_text b }

-- a byte that is not zero; one that is plain ASCII besides
abbrev pub is_some : ℕ → Bool
is_some b = not (nat_eq b 0)

abbrev pub is_plain : ℕ → Bool
is_plain b = not (nat_eq b 0) && nat_lt b 128

-- the bytes in front that are plain ASCII and not zero
unfoldable pub plain_length : List ℕ → ℕ
plain_length [] = 0
plain_length (zero ∷ bs) = 0
plain_length (suc b ∷ bs) = elim (ltb (suc b) 128) [ true ↦ plain_length bs + 1 | false ↦ 0 ]

-- What is due of a character that has begun

unfoldable pub bytes_due : ℕ → ℕ → ℕ → Due
bytes_due n l h = record { more = n; low = l; high = h }

-- a byte that is none
unfoldable pub none_due : Due
none_due = bytes_due 1 1 0

unfoldable pub row_due : Option Row → Due
row_due None = none_due
row_due (Some r) = bytes_due r.more r.low r.high

-- behind a character's first byte, by its row
unfoldable pub first_due : ℕ → Due
first_due b = row_due (row_of rows b)

-- behind a byte
unfoldable pub due_behind : Due → ℕ → Due
due_behind d b = elim d.more [
  | zero ↦ first_due b
  | suc n ↦ elim (leb d.low b && leb b d.high) [ true ↦ bytes_due n 0x80 0xBF | false ↦ none_due ]
]
