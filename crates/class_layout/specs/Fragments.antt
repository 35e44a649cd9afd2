-- Where the fragments of a table stand and where their roots do, and the two lookups by these places. Of an accepted table this is all
-- that a reading asks (`asked_at`; proofs/Asked).
use Rattle.std.specs.Prelude.{◌≡◌, ℕ, zero, suc, ◌+◌, ◌-◌, ◌≤◌, ◌<◌, List, [], ◌∷◌, Bool, true, false, not, ◌&&◌, length, get_or, take, drop, ltb, eqb, Option, None, Some}
use Rattle.rules.specs.Limits.{depth_limit, no_clock}
use Rattle.rules.specs.Class.{Class}
use Rattle.rules.specs.Record.{u8, u64}
use Rattle.rules.specs.Table.{StreamClass, EventClass, Asked}
use Rattle.rules.specs.Parse.{uuid_of}
use Rattle.class_layout.specs.Numbers.{Begins}
use Rattle.class_layout.specs.Trees.{class_at, next_at, IsWhole}

-- Kinds of fragments, by their number

abbrev pub trace_kind : ℕ
trace_kind = 2

abbrev pub stream_kind : ℕ
stream_kind = 4

abbrev pub event_kind : ℕ
event_kind = 5

-- the bytes of a fragment's first record, its kind among them; by kind from 0
unfoldable pub opening_size : ℕ → ℕ
opening_size k = get_or (0 ∷ 2 ∷ 18 ∷ 10 ∷ 10 ∷ 17 ∷ []) k 0

-- the roots that a fragment may have, in their turn
unfoldable pub roots_of : ℕ → List ℕ
roots_of k = get_or ([] ∷ [] ∷ (0 ∷ []) ∷ [] ∷ (1 ∷ 2 ∷ 3 ∷ []) ∷ (4 ∷ 5 ∷ []) ∷ []) k []

-- Roots

-- whether the root n stands at a byte
unfoldable pub root_here : List ℕ → ℕ → ℕ → Bool
root_here t at n = ltb (at + 1) (length t) && (eqb (u8 t at) 6 && eqb n (u8 t (at + 1)))

-- where the classes of these roots stand, from a byte on; the byte behind them
unfoldable pub root_places : List ℕ → ℕ → List ℕ → List (Option ℕ)
root_places t at [] = []
root_places t at (n ∷ ns) =
    elim (root_here t at n) [ true ↦ Some (at + 2) ∷ root_places t (next_at depth_limit t (at + 2)) ns | false ↦ None ∷ root_places t at ns ]

unfoldable pub behind_roots : List ℕ → ℕ → List ℕ → ℕ
behind_roots t at [] = at
behind_roots t at (n ∷ ns) = elim (root_here t at n) [ true ↦ behind_roots t (next_at depth_limit t (at + 2)) ns | false ↦ behind_roots t at ns ]

-- where the class of a fragment's ith root stands, counted from 0 in their turn
unfoldable pub root_place : List ℕ → ℕ → ℕ → Option ℕ
root_place t o i = get_or (root_places t (o + opening_size (u8 t o)) (roots_of (u8 t o))) i None

unfoldable pub behind_fragment : List ℕ → ℕ → ℕ
behind_fragment t o = behind_roots t (o + opening_size (u8 t o)) (roots_of (u8 t o))

-- Fragments

-- those from a byte on; each takes a byte or more, so that as many rounds as there are bytes left are enough
unfoldable pub fragments_from : ℕ → List ℕ → ℕ → List ℕ
fragments_from zero t at = []
fragments_from (suc left) t at = elim (ltb at (length t)) [ true ↦ at ∷ fragments_from left t (behind_fragment t at) | false ↦ [] ]

-- where those behind the preamble stand
unfoldable pub fragments_of : List ℕ → List ℕ
fragments_of t = fragments_from (length t - 2) t 2

-- whether the fragment at a byte is a trace class; this stream class; this event class
unfoldable pub is_trace : List ℕ → ℕ → Bool
is_trace t o = eqb (u8 t o) trace_kind

unfoldable pub is_stream : List ℕ → ℕ → ℕ → Bool
is_stream t i o = eqb (u8 t o) stream_kind && eqb (u64 t (o + 1)) i

unfoldable pub is_event : List ℕ → ℕ → ℕ → ℕ → Bool
is_event t i j o = eqb (u8 t o) event_kind && (eqb (u64 t (o + 1)) i && eqb (u64 t (o + 9)) j)

-- the first place that passes a test
unfoldable pub first_of : (ℕ → Bool) → List ℕ → Option ℕ
first_of f [] = None
first_of f (o ∷ os) = elim (f o) [ true ↦ Some o | false ↦ first_of f os ]

abbrev pub find_trace_at : List ℕ → List ℕ → Option ℕ
find_trace_at t os = first_of (is_trace t) os

abbrev pub find_stream_at : List ℕ → List ℕ → ℕ → Option ℕ
find_stream_at t os i = first_of (is_stream t i) os

abbrev pub find_event_at : List ℕ → List ℕ → ℕ → ℕ → Option ℕ
find_event_at t os i j = first_of (is_event t i j) os

-- What a reading asks, by places

unfoldable pub map_option : {A B : Type 0} → (A → B) → Option A → Option B
map_option f None = None
map_option f (Some a) = Some (f a)

unfoldable pub root_class : List ℕ → ℕ → ℕ → Option Class
root_class t o i = map_option (class_at depth_limit t) (root_place t o i)

unfoldable pub stream_class_at : List ℕ → ℕ → StreamClass
stream_class_at t o = record {
  id = u64 t (o + 1);
  timed = not (eqb (u8 t (o + 9)) no_clock);
  context = root_class t o 0;
  header = root_class t o 1;
  common = root_class t o 2;
}

unfoldable pub event_class_at : List ℕ → ℕ → EventClass
event_class_at t o = record { stream = u64 t (o + 1); id = u64 t (o + 9); specific = root_class t o 0; payload = root_class t o 1 }

unfoldable pub uuid_at : List ℕ → Option ℕ → List ℕ
uuid_at t None = []
uuid_at t (Some o) = uuid_of (u8 t (o + 1)) (take 16 (drop (o + 2) t))

unfoldable pub header_at : List ℕ → Option ℕ → Option Class
header_at t None = None
header_at t (Some o) = root_class t o 0

unfoldable pub asked_at : List ℕ → Asked
asked_at t = record {
  uuid = uuid_at t (find_trace_at t (fragments_of t));
  header = header_at t (find_trace_at t (fragments_of t));
  stream = λ i. map_option (stream_class_at t) (find_stream_at t (fragments_of t) i);
  event = λ i j. map_option (event_class_at t) (find_event_at t (fragments_of t) i j);
}

-- what holds of each fragment of an accepted table: its first record is there, its roots' classes stand whole, it ends further on, and it
-- begins with one of the table's records
pub record Fragment (t : List ℕ) (o : ℕ) : Type 0 where
  pub low : 2 ≤ u8 t o
  pub high : u8 t o ≤ 5
  pub there : o + opening_size (u8 t o) ≤ length t
  pub roots : (i p : ℕ) → root_place t o i ≡ Some p → IsWhole depth_limit t p
  pub onward : o < behind_fragment t o
  pub within : behind_fragment t o ≤ length t
  pub begins : Begins t o

abbrev pub All : (ℕ → Type 0) → List ℕ → Type 0
All P [] = Unit {0}
All P (p ∷ ps) = P p × All P ps

abbrev pub AllFragments : List ℕ → List ℕ → Type 0
AllFragments t os = All (Fragment t) os
