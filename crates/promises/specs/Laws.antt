-- Laws of the rules that later work rests on, as one statement. In order: what holds of entries, of states within a packet, and of
-- readings; then the laws.
use Rattle.std.specs.Prelude.{◌≡◌, ◌⊎◌, ℕ, ◌+◌, ◌-◌, ◌*◌, ◌≤◌, ◌<◌, List, [], ◌∷◌, ◌++◌, length, Some, None}
use Rattle.facts.specs.Bytes.{Bytes}
use Rattle.rules.specs.declared.BitPlace.{BitPlace}
use Rattle.rules.specs.declared.Entry.{Entry}
use Rattle.rules.specs.Limits.{words_per_entry}
use Rattle.rules.specs.Entry.{words}
use Rattle.rules.specs.Verdict.{number_of, place_of}
use Rattle.rules.specs.Step.{State, Out, stop, go}
use Rattle.rules.specs.Field.{Env}
use Rattle.rules.specs.Faults.{Ids}
use Rattle.rules.specs.Table.{Table, StreamClass, asked}
use Rattle.rules.specs.Parse.{good, parse, parse_fragments}
use Rattle.rules.specs.Packet.{read_event, read_events, read_packets}
use Rattle.rules.specs.Read.{Reading, begin, read_all}
use Rattle.laws.specs.All.{All}
use Rattle.laws.specs.Between.{Between, Moved}
use Rattle.promises.specs.Words.{AllWords, WordReading}

-- Entries

-- places that never fall, from p on and to q
abbrev pub Rising : List Entry → ℕ → ℕ → Type 0
Rising [] p q = p ≤ q
Rising (e ∷ es) p q = (p ≤ e.place.0) × Rising es e.place.0 q

-- States within a packet

pub record Inside (e : Env) (s : State) : Type 0 where
  pub from : e.start.0 ≤ s.place.0
  pub to : s.place.0 ≤ e.bound.0
  pub moved : Moved e s.place.0 s.said

-- every entry, and where the outcome stops or goes on
abbrev pub Within : Env → Out → Type 0
Within e (stop es v) = All (λ x. Between e x.place.0) es × Between e v.place.0
Within e (go es s) = All (λ x. Between e x.place.0) es × Inside e s

-- Readings

pub record SpentReading (room : ℕ) (r : Reading) : Type 0 where
  pub within : words_per_entry * length r.entries ≤ room
  pub full : number_of r.verdict ≡ 40 → room < words_per_entry * length r.entries + words_per_entry

-- the first reading ran out of room, behind entries that the second one lists too
pub record RanOut (r r' : Reading) : Type 0 where
  pub number : number_of r.verdict ≡ 40
  pub others : List Entry
  pub entries : r'.entries ≡ r.entries ++ others

-- The laws, of a table x that is accepted as t, and of every stream b and every room

pub record Laws (x : List ℕ) (t : Table) : Type 0 where
  -- the place never goes back: through the entries, and to the verdict
  pub rises : (b : List ℕ) (room : ℕ) → Rising (read_all x b room).entries 0 (place_of (read_all x b room).verdict)
  -- an event stays between the packet's start and the content's end
  pub stays : (i : ℕ) (c : StreamClass) → (asked t).stream i ≡ Some c → (e : Env) (n : ℕ) (s : State) → Inside e s → Within e (read_event (asked t) c e n s)
  -- a reading that goes through ends at the stream's last bit
  pub ends : (b : List ℕ) (room : ℕ) → number_of (read_all x b room).verdict ≡ 0 → place_of (read_all x b room).verdict ≡ 8 * length b
  -- none ends behind it
  pub place_in : (b : List ℕ) (room : ℕ) → place_of (read_all x b room).verdict ≤ 8 * length b
  -- each entry takes its words of the room; and where the number is 40, there is none for one more
  pub spends : (b : List ℕ) (room : ℕ) → SpentReading room (read_all x b room)
  -- more room gives the same reading, or the first one has number 40 and its entries come first in the other
  pub room-more : (b : List ℕ) (room more : ℕ) → (read_all x b (room + more) ≡ read_all x b room) ⊎ RanOut (read_all x b room) (read_all x b (room + more))
  -- the rounds of the three loops never decide: more of them change nothing
  pub fragment-rounds : (q : Ids) (y : List ℕ) (more : ℕ) → parse_fragments (length y + more) q y ≡ parse_fragments (length y) q y
  pub event-rounds : (c : StreamClass) (e : Env) (to : BitPlace) (n : ℕ) (s : State) (more : ℕ)
      → read_events (asked t) c e to n (e.bound.0 - s.place.0 + more) s ≡ read_events (asked t) c e to n (e.bound.0 - s.place.0) s
  pub packet-rounds : (b : List ℕ) (room more : ℕ)
      → read_packets (asked t) b 0 None (length b + more) (begin room) ≡ read_packets (asked t) b 0 None (length b) (begin room)
  -- where the table is of bytes, every word fits 64 bits: of each entry, of the verdict, and so of the list
  pub fits : Bytes x → (b : List ℕ) (room : ℕ) → WordReading (read_all x b room)
  pub list-fits : Bytes x → (b : List ℕ) (room : ℕ) → AllWords (words (read_all x b room).entries)

abbrev pub TheLaws : Type 0
TheLaws = (x : List ℕ) (t : Table) (y : List ℕ) → parse x ≡ good t y → Laws x t
