-- Reading packets, step by step. (Reading; 000 6.1, 6.2)
use Rattle.std.specs.Prelude.{ℕ, zero, suc, ◌+◌, ◌-◌, ◌*◌, ◌%◌, List, Bool, true, false, not, ◌&&◌, ◌||◌, length, ltb, eqb, Option, None, Some}
use Rattle.rules.specs.declared.BitPlace.{BitPlace}
use Rattle.rules.specs.declared.Said.{Said}
use Rattle.rules.specs.declared.Refusal.TheVariants.{StreamClassChanged, StreamClassUnknown, LengthsContradict, ClocksContradict, EventClassUnknown, EventTookNoBits, ClockWentBack}
use Rattle.rules.specs.Place.{bit_place, further}
use Rattle.rules.specs.Slots.{no_slots, packet_slots}
use Rattle.rules.specs.Class.{Class, records}
use Rattle.rules.specs.Entry.{entry, packet_starts, stream_class_found, lengths_settled, event_starts, event_class_found, packet_ends}
use Rattle.rules.specs.Step.{State, Step, ◌⨾◌, pass, refuse, check, due, listed, change, with_last}
use Rattle.rules.specs.Field.{Env, read}
use Rattle.rules.specs.Table.{StreamClass, EventClass, Asked}

-- an entry at the place, which stays
unfoldable pub mark : ℕ → ℕ → ℕ → Step
mark k n v s = listed (entry k s.place n v 0) s.place s

-- a root that is there is read; m is its structure's number
unfoldable pub read_root : Env → ℕ → Option Class → Step
read_root e m None = pass
read_root e m (Some c) = read e m c

-- "counted from 0 at the record that opens it" (02, 7): the first root's record is 1, and its structure 2
abbrev pub first_root : ℕ
first_root = 2

-- the records of a root that is there: its own, and those of its structure
unfoldable pub root_records : Option Class → ℕ
root_records None = 0
root_records (Some c) = 1 + records c

-- the numbers of the other roots' structures: the records go on through a fragment's roots
abbrev pub header_number : StreamClass → ℕ
header_number c = first_root + root_records c.context

abbrev pub common_number : StreamClass → ℕ
common_number c = header_number c + root_records c.header

abbrev pub payload_number : EventClass → ℕ
payload_number d = first_root + root_records d.specific

-- Events: "entry 4; event header; 39; entry 5 and the lookup of the id (0 if this event's header set none); common, specific, payload; 38 if
-- the place did not move"

-- "event class unknown (stream class id, event id)" (37)
unfoldable pub with_event : ℕ → ℕ → Option EventClass → (EventClass → Step) → Step
with_event i j None f = refuse (EventClassUnknown i j)
with_event i j (Some d) f = f d

-- slots "16 to 63" are unset "when an event starts"; its id is 0 until its header says one
unfoldable pub start_event : State → State
start_event s = record {
  place = s.place;
  room = s.room;
  slots = packet_slots s.slots;
  order = s.order;
  clock = s.clock;
  last = s.last;
  said = record { stream = s.said.stream; total = s.said.total; content = s.said.content; ending = s.said.ending; event = 0 };
}

-- "The event's clock after its header may not be below the previous event's in the stream (39), if there is a clock."
unfoldable pub read_event : Asked → StreamClass → Env → ℕ → Step
read_event t c e n s₀ =
    (due
    ⨾ mark event_starts 0 n
    ⨾ change start_event
    ⨾ read_root e (header_number c) c.header
    ⨾ check (λ s. c.timed && ltb s.clock s.last) ClockWentBack
    ⨾ change (λ s. with_last s.clock s)
    ⨾ due
    ⨾ (λ s. with_event c.id s.said.event (t.event c.id s.said.event)
    (λ d.
    mark event_class_found 0 s.said.event
    ⨾ read_root e (common_number c) c.common
    ⨾ read_root e first_root d.specific
    ⨾ read_root e (payload_number d) d.payload) s)
    ⨾ check (λ s. eqb s.place.0 s₀.place.0) EventTookNoBits) s₀

-- "Entry 7; the place becomes P plus total": padding up to a place, and the number of events
unfoldable pub end_packet : BitPlace → ℕ → Step
end_packet to n = due ⨾ λ s. listed (entry packet_ends to (to.0 - s.place.0) n 0) to s

-- "While the place is below the content's end". Each event takes a bit or more (38), so that as many rounds as there are bits left are
-- enough
unfoldable pub read_events : Asked → StreamClass → Env → BitPlace → ℕ → ℕ → Step
read_events t c e to n zero = end_packet to n
read_events t c e to n (suc left) = λ s.
    elim (ltb s.place.0 e.bound.0) [ true ↦ (read_event t c e n ⨾ read_events t c e to (n + 1) left) s | false ↦ end_packet to n s ]

-- A packet's lengths: "If one length is missing it equals the other; if both are, both run to the stream's end."

unfoldable pub or_else : Option ℕ → Option ℕ → ℕ → ℕ
or_else (Some x) y z = x
or_else None (Some y) z = y
or_else None None z = z

-- "35: start clock above a stated end clock"
unfoldable pub above : ℕ → Option ℕ → Bool
above x None = false
above x (Some y) = ltb y x

-- "34: total not a multiple of 8, content above total, total past the stream, content ending before the context does". "The bound is the
-- stream's end until the packet's lengths are known, then the content's end."
unfoldable pub read_content : Asked → StreamClass → List ℕ → BitPlace → ℕ → ℕ → Step
read_content t c b p total content =
    due
    ⨾ check (λ s. not (eqb (total % 8) 0) || ltb total content || ltb (8 * length b) (p.0 + total) || ltb (p.0 + content) s.place.0) LengthsContradict
    ⨾ check (λ s. above s.clock s.said.ending) ClocksContradict
    ⨾ mark lengths_settled total content
    ⨾ λ s.
    read_events t c (record { bytes = b; start = p; bound = further p content; uuid = t.uuid }) (further p total) 0 (p.0 + content - s.place.0) s

-- Packets: "entry 1; header if any; stream class id (0 if this packet's header set none) must equal the first packet's (32); entry 2 and the
-- lookup (33); context if any; entry 3 with the lengths"

-- "stream class ... unknown (first id)" (33)
unfoldable pub with_stream : ℕ → Option StreamClass → (StreamClass → Step) → Step
with_stream i None f = refuse (StreamClassUnknown i)
with_stream i (Some c) f = f c

unfoldable pub differs : ℕ → Option ℕ → Bool
differs i None = false
differs i (Some j) = not (eqb i j)

unfoldable pub nothing_said : Said
nothing_said = record { stream = 0; total = None; content = None; ending = None; event = 0 }

-- "All slots are unset when a packet starts"; "Clock, from 0 at each packet"; no field of the packet has an order yet
unfoldable pub start_packet : State → State
start_packet s = record {
  place = s.place;
  room = s.room;
  slots = no_slots;
  order = None;
  clock = 0;
  last = s.last;
  said = nothing_said;
}

-- the kth packet, where i is the first one's stream class id
unfoldable pub read_packet : Asked → List ℕ → ℕ → Option ℕ → Step
read_packet t b k i s₀ =
    (let e : Env = record { bytes = b; start = s₀.place; bound = bit_place (8 * length b); uuid = t.uuid } in
    due
    ⨾ mark packet_starts 0 k
    ⨾ change start_packet
    ⨾ read_root e first_root t.header
    ⨾ check (λ s. differs s.said.stream i) StreamClassChanged
    ⨾ due
    ⨾ λ s. with_stream s.said.stream (t.stream s.said.stream)
    (λ c.
    mark stream_class_found 0 s.said.stream
    ⨾ read_root e first_root c.context
    ⨾ λ s. let rest = 8 * length b - s₀.place.0 in
    read_content t c b s₀.place (or_else s.said.total s.said.content rest) (or_else s.said.content s.said.total rest) s) s) s₀

-- "Continue while bytes remain." Each packet takes a byte or more, so that as many rounds as there are bytes are enough
unfoldable pub read_packets : Asked → List ℕ → ℕ → Option ℕ → ℕ → Step
read_packets t b k i zero = pass
read_packets t b k i (suc left) = λ s.
    elim (ltb s.place.0 (8 * length b)) [
      | true ↦ (read_packet t b k i ⨾ λ s. read_packets t b (k + 1) (Some s.said.stream) left s) s
      | false ↦ pass s
    ]
