-- What the list holds: "Lent 64-bit words, four an entry, each entry written into what remains of the list: kind, place, bits, value."
-- "Each entry grows to five words; the fifth is the number of the class record within its own fragment, counted from 0 at the record that
-- opens it, and is 0 for entries 1 to 7." (02, 7)
use Rattle.std.specs.Prelude.{ℕ, List, [], ◌∷◌}
use Rattle.rules.specs.declared.BitPlace.{BitPlace}
use Rattle.rules.specs.declared.Entry.{Entry}

-- the one way to make an entry
abbrev pub entry : ℕ → BitPlace → ℕ → ℕ → ℕ → Entry
entry k p n v m = record { kind = k; place = p; bits = n; value = v; number = m }

-- the one way in which entries become words
unfoldable pub words : List Entry → List ℕ
words [] = []
words (e ∷ es) = e.kind ∷ e.place.0 ∷ e.bits ∷ e.value ∷ e.number ∷ words es

-- the kinds of entries that stand for no field; those of fields are the class's kind
-- "1: packet, P, 0, its number from 0."
abbrev pub packet_starts : ℕ
packet_starts = 1

-- "2: class found, place, 0, id."
abbrev pub stream_class_found : ℕ
stream_class_found = 2

-- "3: place, total, content."
abbrev pub lengths_settled : ℕ
lengths_settled = 3

-- "4: event, place, 0, its number in the packet."
abbrev pub event_starts : ℕ
event_starts = 4

-- "5: class found, place, 0, id."
abbrev pub event_class_found : ℕ
event_class_found = 5

-- "6: place after the field, L, clock."
abbrev pub clock_advanced : ℕ
clock_advanced = 6

-- "7: place after padding, padding bits, number of events."
abbrev pub packet_ends : ℕ
packet_ends = 7
