-- The frequency of the clock that a stream class names. An accepted table is a row of records, each of a length that its kind fixes, so
-- that no nesting is needed to find one. "3 clock class: id; frequency (8)", "4 stream class: id (8); clock id" (The class table)
use Rattle.std.specs.Prelude.{ℕ, zero, suc, ◌+◌, List, Bool, true, false, ◌&&◌, length, get_or, eqb}
use Rattle.rules.specs.Record.{no, layouts}
use Rattle.table_offsets.specs.Check.{number_at}

-- the byte behind the record at a byte, by the rules' rows; behind a byte that is no kind's, the next one
unfoldable pub behind : List ℕ → ℕ → ℕ
behind t at = at + 1 + (get_or layouts (get_or t at 0) no).0

-- whether the stream class, or the clock class, of an id stands at a byte
unfoldable pub is_stream : List ℕ → ℕ → ℕ → Bool
is_stream t at i = eqb (get_or t at 0) 4 && eqb (number_at t (at + 1) 8) i

unfoldable pub is_clock : List ℕ → ℕ → ℕ → Bool
is_clock t at i = eqb (get_or t at 0) 3 && eqb (get_or t (at + 1) 0) i

-- the clock id of a stream class, or 255; the frequency of a clock, or 0: of the first that there is among so many records from a byte on
unfoldable pub clock_from : ℕ → List ℕ → ℕ → ℕ → ℕ
clock_from zero t at i = 255
clock_from (suc n) t at i = elim (is_stream t at i) [ true ↦ get_or t (at + 9) 0 | false ↦ clock_from n t (behind t at) i ]

unfoldable pub frequency_from : ℕ → List ℕ → ℕ → ℕ → ℕ
frequency_from zero t at i = 0
frequency_from (suc n) t at i = elim (is_clock t at i) [ true ↦ number_at t (at + 2) 8 | false ↦ frequency_from n t (behind t at) i ]

-- each record takes a byte or more, so that as many as there are bytes are all
unfoldable pub frequency_of : List ℕ → ℕ → ℕ
frequency_of t i = frequency_from (length t) t 0 (clock_from (length t) t 0 i)
