-- Readers that would be no good, and that the statements do not admit. In order: readers; five that fail the contract; two that make up a
-- count, of entries or of events; a lookup that fails demand 3.
use Rattle.std.specs.Prelude.{◌≡◌, ◌⊎◌, ℕ, zero, suc, ◌+◌, ◌*◌, ◌<◌, ◌≤◌, List, [], ◌∷◌, Bool, true, false, ◌&&◌, length, get_or, eqb, leb, Option, None, Some}
use Rattle.rules.specs.declared.Entry.{Entry}
use Rattle.rules.specs.declared.Report.{Report}
use Rattle.rules.specs.Limits.{words_per_entry}
use Rattle.rules.specs.Entry.{packet_starts, event_starts, packet_ends}
use Rattle.rules.specs.Table.{Table, EventClass, Asked, asked, find_stream}
use Rattle.rules.specs.Parse.{good, parse}
use Rattle.rules.specs.Read.{read_stream, read_all, result_of, list_after}
use Rattle.rules.specs.Edition.{both}
use Rattle.promises.specs.Edition.{keep}
use Rattle.promises.specs.Missing.{missed, shortened}
use Rattle.promises.specs.Demands.{call, listed_by, Contract}

-- a table, a stream and a list give a result and the list afterwards
abbrev pub Reader : Type 0
Reader = List ℕ → List ℕ → List ℕ → Report × List ℕ

abbrev pub Meets : Reader → Type 0
Meets f = (x b ws : List ℕ) → Contract x b (call (f x b ws).0 ws (f x b ws).1)

-- it refuses every stream
abbrev pub Refusing : Reader → Type 0
Refusing f = (x b ws : List ℕ) → (f x b ws).0.number ≡ 0 → ⊥

-- it lists one fixed set of entries, whatever the table and the stream
abbrev pub Fixed : Reader → Type 0
Fixed f = (x x' b b' ws : List ℕ) → (f x b ws).1 ≡ (f x' b' ws).1

-- it writes no list
abbrev pub Silent : Reader → Type 0
Silent f = (x b ws : List ℕ) → (f x b ws).1 ≡ ws

-- it lists a packet at its first entry: all entries stand at the packet's place. A packet takes a byte or more, so that a stream of one
-- byte has one packet; an entry's second word is its place
abbrev pub AtOnce : Reader → Type 0
AtOnce f = (x ws : List ℕ) (v k : ℕ) → k < (f x (v ∷ []) ws).0.entries
    → get_or (f x (v ∷ []) ws).1 (words_per_entry * k + 1) 0 ≡ get_or (f x (v ∷ []) ws).1 1 0

-- it lists a packet whole or not at all: with less room all of the entries, or none
abbrev pub WholeOrNone : Reader → Type 0
WholeOrNone f = (x ws ws' : List ℕ) (v : ℕ) → length ws' ≤ length ws
    → ((f x (v ∷ []) ws').0.entries ≡ (f x (v ∷ []) ws).0.entries) ⊎ ((f x (v ∷ []) ws').0.entries ≡ 0)

-- "a made-up entry or event count by the list itself, whose words it must match": on one input alone, a table x, a stream b and a list ws

-- an entry by its kind, before n others: none, if that is 0
unfoldable pub before : ℕ → ℕ → ℕ
before zero n = 0
before (suc k) n = n + 1

-- the entries that a list shows which was lent as zeros: five words each, up to the first kind 0
unfoldable pub shown : List ℕ → ℕ
shown [] = 0
shown (k ∷ []) = 0
shown (k ∷ p ∷ []) = 0
shown (k ∷ p ∷ n ∷ []) = 0
shown (k ∷ p ∷ n ∷ v ∷ []) = 0
shown (k ∷ p ∷ n ∷ v ∷ m ∷ ws) = before k (shown ws)

-- it says another count of entries than its list shows
pub record MadeUpEntries (f : Reader) (x b ws : List ℕ) : Type 0 where
  pub zeros : (i : ℕ) → get_or ws i 0 ≡ 0
  pub other : (f x b ws).0.entries ≡ shown (f x b ws).1 → ⊥

-- the events of a packet behind an entry, where they were n in front: none where a packet starts, one more behind an entry 4
unfoldable pub events_behind : ℕ → Entry → ℕ
events_behind n e =
    elim (eqb e.kind packet_starts) [ true ↦ 0 | false ↦ elim (eqb e.kind event_starts) [ true ↦ n + 1 | false ↦ n ] ]

-- each entry 4 of a list has its number in the packet, and each entry 7 the number of events, from n on
abbrev pub Counting : ℕ → List Entry → Type 0
Counting n [] = Unit {0}
Counting n (e ∷ es) = (e.kind ≡ event_starts → e.value ≡ n) × (e.kind ≡ packet_ends → e.value ≡ n) × Counting (events_behind n e) es

-- it says another count of events, or another number of one, than its list has
abbrev pub MadeUpEvents : Reader → List ℕ → List ℕ → List ℕ → Type 0
MadeUpEvents f x b ws = Counting 0 (listed_by (call (f x b ws).0 ws (f x b ws).1)) → ⊥

-- demand 3, of a reading that asks a table otherwise
abbrev pub Demand3By : (Table → Asked) → Type 0
Demand3By ask = (ks : ℕ → Bool) (ke : ℕ → ℕ → Bool) (x : List ℕ) (t : Table) (y : List ℕ) → parse x ≡ good t y → (b : List ℕ) (room : ℕ)
    → read_stream (ask (keep ks (both ks ke) t)) b room
    ≡ shortened (missed ks ke (read_stream (ask t) b room).entries) (read_stream (ask t) b room)

-- "Taking the nearest event class when the id isn't there."
unfoldable pub nearest_event : List EventClass → ℕ → ℕ → Option EventClass
nearest_event [] i j = None
nearest_event (c ∷ cs) i j = elim (eqb c.stream i && leb j c.id) [ true ↦ Some c | false ↦ nearest_event cs i j ]

unfoldable pub nearest : Table → Asked
nearest t = record { uuid = t.uuid; header = t.header; stream = find_stream t.streams; event = nearest_event t.events }

-- the rules' own answers
abbrev pub ruled : Reader
ruled x b ws = (result_of (read_all x b (length ws)), list_after (read_all x b (length ws)) ws)

pub record Rejected : Type 0 where
  pub admitted : Meets ruled
  pub refusing : (f : Reader) → Refusing f → Meets f → ⊥
  pub fixed : (f : Reader) → Fixed f → Meets f → ⊥
  pub silent : (f : Reader) → Silent f → Meets f → ⊥
  pub at_once : (f : Reader) → AtOnce f → Meets f → ⊥
  pub whole-or-none : (f : Reader) → WholeOrNone f → Meets f → ⊥
  pub made-up-entries : (f : Reader) (x b ws : List ℕ) → MadeUpEntries f x b ws → Meets f → ⊥
  pub made-up-events : (f : Reader) (x b ws : List ℕ) → MadeUpEvents f x b ws → Meets f → ⊥
  -- the exact id meets demand 3, and the nearest does not
  pub exact-id : Demand3By asked
  pub nearest-id : Demand3By nearest → ⊥
