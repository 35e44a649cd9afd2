-- The lines of a list's first entries, one behind the other.
use Rattle.std.specs.Prelude.{ℕ, zero, suc, ◌+◌, ◌*◌, ◌/◌, List, [], ◌++◌, true, false, length, get_or, eqb, ltb}
use Rattle.rules.specs.Limits.{words_per_entry}
use Rattle.rules.specs.Entry.{stream_class_found}
use Rattle.screen_clock.specs.Frequency.{frequency_of}
use Rattle.screen_head.specs.Head.{Five, five}
use Rattle.screen_line.specs.Line.{line}

-- how many entries there are, where so many are asked for and the list has so many words
unfoldable pub entries_in : ℕ → ℕ → ℕ
entries_in words n = elim (ltb (words / words_per_entry) n) [ true ↦ words / words_per_entry | false ↦ n ]

-- entry i: five words
unfoldable pub entry_at : List ℕ → ℕ → Five
entry_at ws i =
    let at = i * words_per_entry in
    five (get_or ws at 0) (get_or ws (at + 1) 0) (get_or ws (at + 2) 0) (get_or ws (at + 3) 0) (get_or ws (at + 4) 0)

-- entry 2 settles the frequency: its own, and of what follows
unfoldable pub settled : List ℕ → ℕ → Five → ℕ
settled t f e = elim (eqb e.kind stream_class_found) [ true ↦ frequency_of t e.value | false ↦ f ]

-- so many lines from entry i on, in front of which the frequency is f
unfoldable pub lines_from : ℕ → List ℕ → List ℕ → List ℕ → ℕ → ℕ → List ℕ
lines_from zero t s ws i f = []
lines_from (suc n) t s ws i f =
    line s (settled t f (entry_at ws i)) (entry_at ws i) ++ lines_from n t s ws (i + 1) (settled t f (entry_at ws i))

-- by table, stream and the list's words: the first n entries, or as many as the words are. In front of the first there is no frequency
unfoldable pub lines : List ℕ → List ℕ → List ℕ → ℕ → List ℕ
lines t s ws n = lines_from (entries_in (length ws) n) t s ws 0 0
