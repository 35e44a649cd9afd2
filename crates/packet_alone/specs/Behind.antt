-- A packet behind its entry 1, as `read_packet` has it; what stands for lengths that are not stated is a number of its own, `rest`. In
-- order: the environments of a packet; its parts, from the events up; the packet.
use Rattle.std.specs.Prelude.{ℕ, ◌+◌, ◌-◌, ◌*◌, ◌%◌, List, Bool, not, ◌||◌, length, ltb, eqb, Option}
use Rattle.rules.specs.declared.BitPlace.{BitPlace}
use Rattle.rules.specs.declared.Refusal.TheVariants.{StreamClassChanged}
use Rattle.rules.specs.Limits.{words_per_entry}
use Rattle.rules.specs.Place.{bit_place, further}
use Rattle.rules.specs.Entry.{stream_class_found}
use Rattle.rules.specs.Step.{State, Step, ◌⨾◌, check, due, change}
use Rattle.rules.specs.Table.{StreamClass, Asked}
use Rattle.rules.specs.Field.{Env}
use Rattle.rules.specs.Packet.{mark, read_root, first_root, read_events, or_else, read_content, with_stream, differs, start_packet}

-- of a stream's bytes b from a packet's place p on: up to a bound, and up to the stream's end
abbrev pub up_to : Asked → List ℕ → BitPlace → ℕ → Env
up_to t b p bound = record { bytes = b; start = p; bound = bit_place bound; uuid = t.uuid }

abbrev pub to_end : Asked → List ℕ → BitPlace → Env
to_end t b p = up_to t b p (8 * length b)

-- a state behind an entry that leaves the place
abbrev pub less : State → State
less s = record {
  place = s.place;
  room = s.room - words_per_entry;
  slots = s.slots;
  order = s.order;
  clock = s.clock;
  last = s.last;
  said = s.said;
}

-- the lengths that a packet's context left, where `rest` stands for both if none is stated
abbrev pub total_of : ℕ → State → ℕ
total_of rest s = or_else s.said.total s.said.content rest

abbrev pub content_of : ℕ → State → ℕ
content_of rest s = or_else s.said.content s.said.total rest

-- the test of 34
abbrev pub contradict : List ℕ → BitPlace → ℕ → ℕ → State → Bool
contradict b p total content s =
    not (eqb (total % 8) 0) || ltb total content || ltb (8 * length b) (p.0 + total) || ltb (p.0 + content) s.place.0

abbrev pub events_of : Asked → StreamClass → List ℕ → BitPlace → ℕ → ℕ → Step
events_of t c b p total content s = read_events t c (up_to t b p (p.0 + content)) (further p total) 0 (p.0 + content - s.place.0) s

abbrev pub content_step : Asked → List ℕ → BitPlace → ℕ → StreamClass → Step
content_step t b p rest c s = read_content t c b p (total_of rest s) (content_of rest s) s

abbrev pub of_class : Asked → List ℕ → BitPlace → ℕ → ℕ → StreamClass → Step
of_class t b p rest i c = mark stream_class_found 0 i ⨾ read_root (to_end t b p) first_root c.context ⨾ content_step t b p rest c

abbrev pub of_stream : Asked → List ℕ → BitPlace → ℕ → State → Step
of_stream t b p rest s = with_stream s.said.stream (t.stream s.said.stream) (of_class t b p rest s.said.stream)

abbrev pub packet : Asked → List ℕ → BitPlace → ℕ → Option ℕ → Step
packet t b p rest i =
    change start_packet
    ⨾ read_root (to_end t b p) first_root t.header
    ⨾ check (λ s. differs s.said.stream i) StreamClassChanged
    ⨾ due
    ⨾ λ s. of_stream t b p rest s s
