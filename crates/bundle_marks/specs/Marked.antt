-- Which fragments of a table the entries of lists name: a mark for each byte of the table, not 0 where a stream class or an event class
-- opens that is named.
use Rattle.std.specs.Prelude.{ℕ, zero, suc, ◌<◌, List, [], ◌∷◌, true, false, get_or, drop, set, eqb, Some, None, Option}
use Rattle.rules.specs.declared.Entry.{Entry}
use Rattle.rules.specs.Limits.{words_per_entry}
use Rattle.rules.specs.Place.{bit_place}
use Rattle.rules.specs.Entry.{entry, stream_class_found, event_class_found}
use Rattle.rules.specs.Read.{Reading}
use Rattle.rules.specs.Bundle.{under}
use Rattle.class_layout.specs.Fragments.{fragments_of, find_stream_at, find_event_at}
use Rattle.bundle_marks.specs.declared.Front.{Front}

-- the first n entries of the words of a list
unfoldable pub entries_of : ℕ → List ℕ → List Entry
entries_of zero ws = []
entries_of (suc n) ws =
    entry (get_or ws 0 0) (bit_place (get_or ws 1 0)) (get_or ws 2 0) (get_or ws 3 0) (get_or ws 4 0) ∷ entries_of n (drop words_per_entry ws)

-- where the stream class of an id stands, and the event class of both
unfoldable pub stream_place : List ℕ → ℕ → Option ℕ
stream_place t i = find_stream_at t (fragments_of t) i

unfoldable pub event_place : List ℕ → ℕ → ℕ → Option ℕ
event_place t i j = find_event_at t (fragments_of t) i j

-- the stream class of an id, as the one in front
unfoldable pub front_of : List ℕ → ℕ → Front
front_of t i = record { id = i; place = stream_place t i }

-- a place that may be marked: it lies below n
unfoldable pub Below : ℕ → Option ℕ → Type 0
Below n (Some o) = o < n
Below n None = Unit {0}

-- an id with no fragment marks nothing
unfoldable pub mark_at : Option ℕ → List ℕ → List ℕ
mark_at (Some o) m = set m o 1
mark_at None m = m

-- An entry of the kind k and the value v, with the stream class i in front

-- which is in front behind it
unfoldable pub next_front : ℕ → ℕ → ℕ → ℕ
next_front i k v = elim (eqb k stream_class_found) [ true ↦ v | false ↦ i ]

-- entry 2 names a stream class; entry 5 an event class of the one in front, and that one
unfoldable pub mark_one : List ℕ → ℕ → ℕ → ℕ → List ℕ → List ℕ
mark_one t i k v m =
    elim (eqb k stream_class_found) [
      | true ↦ mark_at (stream_place t v) m
      | false ↦ elim (eqb k event_class_found) [ true ↦ mark_at (stream_place t i) (mark_at (event_place t i v) m) | false ↦ m ]
    ]

unfoldable pub mark_list : List ℕ → ℕ → List Entry → List ℕ → List ℕ
mark_list t i [] m = m
mark_list t i (e ∷ es) m = mark_list t (under i e) es (mark_one t i e.kind e.value m)

-- by all readings; each begins with the stream class 0 in front, as `stream_listed` and `event_listed` do
unfoldable pub mark_all : List ℕ → List Reading → List ℕ → List ℕ
mark_all t [] m = m
mark_all t (r ∷ rs) m = mark_all t rs (mark_list t 0 r.entries m)
