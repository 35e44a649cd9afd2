-- A line in pieces, each of less than 256 bytes, so that a text of any length is shown from a small room. A line that shows no text is one
-- piece. One that does has the head with the opening quote, then 32 bytes of the text each, the last piece with the closing quote.
use Rattle.std.specs.Prelude.{ℕ, zero, suc, ◌+◌, ◌-◌, ◌*◌, ◌/◌, ◌%◌, List, [], ◌++◌, Bool, true, false, length, ltb, eqb}
use Rattle.screen_number.specs.Number.{bytes}
use Rattle.screen_head.specs.Kinds.{Shows, plain, signed, as_hex, as_float, as_seconds, as_text, as_bytes, row_of}
use Rattle.screen_head.specs.Head.{Five, head}
use Rattle.screen_text.specs.Escape.{part}
use Rattle.screen_line.specs.Line.{bytes_of, line}

-- sorts of what is shown, by number: as the code has them
unfoldable pub sort_of : Shows → ℕ
sort_of plain = 0
sort_of signed = 0
sort_of as_hex = 1
sort_of as_float = 2
sort_of as_seconds = 3
sort_of as_text = 4
sort_of as_bytes = 5

unfoldable pub sort_of_kind : ℕ → ℕ
sort_of_kind k = sort_of (row_of k).shows

unfoldable pub is_text : Five → Bool
is_text e = eqb (sort_of_kind e.kind) 4

-- the kth piece of a text, behind its opening quote
unfoldable pub last_part : List ℕ → ℕ → List ℕ
last_part t k = elim (eqb k (length t / 32)) [ true ↦ part t (32 * k) (length t % 32) ++ bytes "\"\n" | false ↦ [] ]

unfoldable pub text_part : List ℕ → ℕ → List ℕ
text_part t k = elim (ltb k (length t / 32)) [ true ↦ part t (32 * k) 32 | false ↦ last_part t k ]

unfoldable pub text_piece : Five → List ℕ → ℕ → List ℕ
text_piece e t i = elim (eqb i 0) [ true ↦ head e ++ bytes "  \"" | false ↦ text_part t (i - 1) ]

unfoldable pub only_piece : List ℕ → ℕ → Five → ℕ → List ℕ
only_piece s f e i = elim (eqb i 0) [ true ↦ line s f e | false ↦ [] ]

unfoldable pub piece : List ℕ → ℕ → Five → ℕ → List ℕ
piece s f e i = elim (is_text e) [ true ↦ text_piece e (bytes_of s e) i | false ↦ only_piece s f e i ]

-- how many there are
unfoldable pub pieces : List ℕ → Five → ℕ
pieces s e = elim (is_text e) [ true ↦ length (bytes_of s e) / 32 + 2 | false ↦ 1 ]

-- the first n of them, one behind the other
unfoldable pub joined : List ℕ → ℕ → Five → ℕ → List ℕ
joined s f e zero = []
joined s f e (suc n) = joined s f e n ++ piece s f e n
