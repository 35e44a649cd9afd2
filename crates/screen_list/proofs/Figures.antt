-- A small list's lines, computed from the definitions: which frequency a clock's line has, and that entries beyond the list's end are
-- none.
use mathlib.Core.Path.{◌≡◌, refl}
use Prim.Native.Nat.{ℕ}
use mathlib.Core.List.{List, [], ◌∷◌, ◌++◌}
use Rattle.rules.specs.Record.{no, bits_layout, layouts}
use Rattle.table_offsets.specs.Bodies.{known, mark, body_mark}
use Rattle.table_offsets.specs.Check.{number_at}
use Rattle.screen_number.specs.Number.{bytes}
use Rattle.screen_head.specs.Shown.{shown}
use Rattle.screen_meaning.specs.Meant.{meant}
use Rattle.screen_clock.specs.Frequency.{behind, is_stream, is_clock, clock_from, frequency_from, frequency_of}
use Rattle.screen_line.specs.Line.{bytes_of, clock_meaning, blob_meaning, meaning, line}
use Rattle.screen_list.specs.Lines.{entries_in, entry_at, settled, lines_from, lines}

unfoldable frequencies : ℕ
unfolding no bits_layout layouts known mark body_mark number_at behind is_stream is_clock clock_from frequency_from frequency_of
frequencies = 0

-- a clock of 1,000 turns a second; stream class 7 has it, and stream class 8 has none
abbrev table : List ℕ
table =
    1 ∷ 2 ∷ (3 ∷ 0 ∷ 232 ∷ 3 ∷ 0 ∷ 0 ∷ 0 ∷ 0 ∷ 0 ∷ 0 ∷ []) ++ (4 ∷ 7 ∷ 0 ∷ 0 ∷ 0 ∷ 0 ∷ 0 ∷ 0 ∷ 0 ∷ 0 ∷ []) ++
    (4 ∷ 8 ∷ 0 ∷ 0 ∷ 0 ∷ 0 ∷ 0 ∷ 0 ∷ 0 ∷ 255 ∷ [])

-- a clock, stream class 7, a clock, stream class 8, a clock; and a word of no entry
abbrev words : List ℕ
words =
    (6 ∷ 0 ∷ 8 ∷ 1500 ∷ 0 ∷ []) ++ (2 ∷ 8 ∷ 0 ∷ 7 ∷ 0 ∷ []) ++ (6 ∷ 16 ∷ 8 ∷ 1500 ∷ 0 ∷ []) ++ (2 ∷ 24 ∷ 0 ∷ 8 ∷ 0 ∷ []) ++
    (6 ∷ 32 ∷ 8 ∷ 1500 ∷ 0 ∷ []) ++ (9 ∷ [])

the-lines : lines table [] words 7
    ≡ bytes "clock                    0         8                  1500     0\n"
    ++ bytes "stream-class             8         0                     7     0\n"
    ++ bytes "clock                   16         8                  1500     0  1.500000000 s\n"
    ++ bytes "stream-class            24         0                     8     0\n"
    ++ bytes "clock                   32         8                  1500     0\n"
unfolding shown meant frequencies bytes_of clock_meaning blob_meaning meaning line entries_in entry_at settled lines_from lines
the-lines = refl

the-first : lines table [] words 2
    ≡ bytes "clock                    0         8                  1500     0\n"
    ++ bytes "stream-class             8         0                     7     0\n"
unfolding shown meant frequencies bytes_of clock_meaning blob_meaning meaning line entries_in entry_at settled lines_from lines
the-first = refl
