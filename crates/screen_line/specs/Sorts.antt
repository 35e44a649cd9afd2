-- What an entry means by the number of its sort, where that is not a text's: `meaning`, as the code goes through it.
use Rattle.std.specs.Prelude.{ℕ, List, [], ◌++◌, true, false, eqb}
use Rattle.screen_number.specs.Number.{bytes}
use Rattle.screen_head.specs.Kinds.{rows, row, row_of, unknown}
use Rattle.screen_head.specs.Head.{Five}
use Rattle.screen_meaning.specs.Bytes.{bit_array}
use Rattle.screen_meaning.specs.Float.{shown_float}
use Rattle.screen_line.specs.declared.meant.Sort.{Sort}
use Rattle.screen_line.specs.declared.meant.Sort.TheVariants.{Nothing, Hex, Float, Seconds, Text, Bytes}
use Rattle.screen_line.specs.Pieces.{sort_of, sort_of_kind}
use Rattle.screen_line.specs.Line.{bytes_of, clock_meaning, blob_meaning}

abbrev pub number_of : Sort → ℕ
number_of Nothing = 0
number_of Hex = 1
number_of Float = 2
number_of Seconds = 3
number_of Text = 4
number_of Bytes = 5

-- One name for what tells a kind's sort, to compute with it: `unfolding sorts` opens it all
unfoldable pub sorts : ℕ
unfolding rows row row_of unknown sort_of sort_of_kind
sorts = 0

unfoldable pub from_seconds : ℕ → List ℕ → ℕ → Five → List ℕ
from_seconds n s f e =
    elim (eqb n 3) [
      | true ↦ clock_meaning f e.value
      | false ↦ elim (eqb n 5) [ true ↦ blob_meaning (bytes_of s e) | false ↦ [] ]
    ]

unfoldable pub short_meaning : ℕ → List ℕ → ℕ → Five → List ℕ
short_meaning n s f e =
    elim (eqb n 1) [
      | true ↦ bytes "  " ++ bit_array e.bits e.value
      | false ↦ elim (eqb n 2) [ true ↦ bytes "  " ++ shown_float e.bits e.value | false ↦ from_seconds n s f e ]
    ]
