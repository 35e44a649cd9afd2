-- An entry's line: its five words, and behind two blanks what the entry means. The words are for programs, the meaning is for people.
use Rattle.std.specs.Prelude.{ℕ, ◌/◌, List, [], ◌++◌, true, false, length, take, drop, eqb}
use Rattle.screen_number.specs.Number.{bytes}
use Rattle.screen_head.specs.Kinds.{Shows, plain, signed, as_hex, as_float, as_seconds, as_text, as_bytes, row_of}
use Rattle.screen_head.specs.Head.{Five, head}
use Rattle.screen_text.specs.Escape.{quoted}
use Rattle.screen_meaning.specs.Bytes.{blob, bit_array}
use Rattle.screen_meaning.specs.Seconds.{seconds}
use Rattle.screen_meaning.specs.Float.{shown_float}

-- the bytes of the stream that a string's or BLOB's value counts, from its place on
unfoldable pub bytes_of : List ℕ → Five → List ℕ
bytes_of s e = take e.value (drop (e.place / 8) s)

-- of a clock without a frequency, and of a BLOB without a byte, there is nothing to say
unfoldable pub clock_meaning : ℕ → ℕ → List ℕ
clock_meaning f v = elim (eqb f 0) [ true ↦ [] | false ↦ bytes "  " ++ seconds f v ]

unfoldable pub blob_meaning : List ℕ → List ℕ
blob_meaning b = elim (eqb (length b) 0) [ true ↦ [] | false ↦ bytes "  " ++ blob b ]

-- by what is shown of its kind, the stream and the frequency of the packet's clock
unfoldable pub meaning : Shows → List ℕ → ℕ → Five → List ℕ
meaning plain s f e = []
meaning signed s f e = []
meaning as_hex s f e = bytes "  " ++ bit_array e.bits e.value
meaning as_float s f e = bytes "  " ++ shown_float e.bits e.value
meaning as_seconds s f e = clock_meaning f e.value
meaning as_text s f e = bytes "  " ++ quoted (bytes_of s e)
meaning as_bytes s f e = blob_meaning (bytes_of s e)

unfoldable pub line : List ℕ → ℕ → Five → List ℕ
line s f e = head e ++ (meaning (row_of e.kind).shows s f e ++ bytes "\n")
