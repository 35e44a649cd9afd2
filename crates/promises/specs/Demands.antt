-- The three demands, of calls of a reader. A call is what its caller sees: the result, and the words of the lent list before and after. In
-- order: the entries that a list holds; a call; the contract of `read`; demands 1, 2 and 3; less room; all of it, gathered.
use Rattle.std.specs.Prelude.{◌≡◌, ◌⊎◌, ℕ, zero, suc, ◌*◌, ◌/◌, ◌≤◌, List, [], ◌∷◌, ◌++◌, Bool, length, get_or, take, drop, None, Some, Err}
use Rattle.rules.specs.declared.Entry.{Entry}
use Rattle.rules.specs.declared.Report.{Report}
use Rattle.rules.specs.Limits.{words_per_entry}
use Rattle.rules.specs.Place.{bit_place, byte_length}
use Rattle.rules.specs.Parse.{checked}
use Rattle.rules.specs.Entry.{entry}
use Rattle.rules.specs.Verdict.{refusal_number, refusal_first, refusal_second, table_fault}
use Rattle.rules.specs.Read.{read_all, result_of, list_after}
use Rattle.clock.specs.Ticked.{ticked_number}
use Rattle.promises.specs.Clocks.{Ticking, NeedsMore}
use Rattle.rules.specs.Edition.{leave}
use Rattle.promises.specs.Missing.{Lost, missed, Good}

-- the first n entries of a list, five words each
unfoldable pub entries_in : ℕ → List ℕ → List Entry
entries_in zero ws = []
entries_in (suc n) ws =
    entry (get_or ws 0 0) (bit_place (get_or ws 1 0)) (get_or ws 2 0) (get_or ws 3 0) (get_or ws 4 0) ∷ entries_in n (drop words_per_entry ws)

pub record Call : Type 0 where
  pub result : Report
  pub before : List ℕ
  pub after : List ℕ

abbrev pub call : Report → List ℕ → List ℕ → Call
call r ws ws' = record { result = r; before = ws; after = ws' }

-- what it listed
abbrev pub listed_by : Call → List Entry
listed_by c = entries_in c.result.entries c.after

-- the words of a call's first k entries
abbrev pub words_of : ℕ → Call → List ℕ
words_of k c = take (words_per_entry * k) c.after

-- the words behind k entries, as they came
abbrev pub came_behind : ℕ → Call → List ℕ
came_behind k c = drop (words_per_entry * k) c.before

-- The contract of `read`, for a table x and a stream b: number, entries, place and ids, and every word of the list, are the rules' own

pub record Contract (x b : List ℕ) (c : Call) : Type 0 where
  pub result : c.result ≡ result_of (read_all x b (length c.before))
  pub list : c.after ≡ list_after (read_all x b (length c.before)) c.before

-- Demand 1: an answer for every table x, stream b and list

-- "20: table refused; first id is its number, place its byte; 0 entries": as the check of the table answers
pub record ByTable (x : List ℕ) (r : Report) : Type 0 where
  pub check : checked x ≡ Err (table_fault r.first (byte_length r.place))
  pub number : (1 ≤ r.first) × (r.first ≤ 15)
  pub byte : r.place ≤ length x
  pub none : r.entries ≡ 0

pub record Demand1 (x b : List ℕ) (c : Call) : Type 0 where
  -- accepted, or refused by one of the paper's numbers
  pub number : (c.result.number ≡ 0) ⊎ ((20 ≤ c.result.number) × (c.result.number ≤ 41))
  -- "Accepted: 8 times the bytes."
  pub accepted : c.result.number ≡ 0 → c.result.place ≡ 8 * length b
  pub by-table : c.result.number ≡ 20 → ByTable x c.result
  -- any other refusal is at a bit of the stream
  pub at-bit : 21 ≤ c.result.number → c.result.place ≤ 8 * length b
  -- "Ids are 0 elsewhere.": 20 and 33 have the first one, 37 has both
  pub first : (c.result.number ≡ 20 → ⊥) → (c.result.number ≡ 33 → ⊥) → (c.result.number ≡ 37 → ⊥) → c.result.first ≡ 0
  pub second : (c.result.number ≡ 37 → ⊥) → c.result.second ≡ 0
  -- "Entries stay": five words each, as the rules list them up to the refusal
  pub room : words_per_entry * c.result.entries ≤ length c.before
  pub stay : listed_by c ≡ (read_all x b (length c.before)).entries
  -- "words behind them are untouched"
  pub same_length : length c.after ≡ length c.before
  pub untouched : drop (words_per_entry * c.result.entries) c.after ≡ came_behind c.result.entries c

-- Demand 2: list and verdict are the rules' own; and each clock in the list is the least value, not below the last one in that packet, that
-- ends in the stamp's bits, and below 2 to the 64; a stamp is refused where that value needs more. That the rules' update and bits are the
-- standard's is `AsStandard`

pub record Demand2 (x b : List ℕ) (c : Call) : Type 0 where
  pub rules : Contract x b c
  -- the first entry is a packet's: what stands before it does not count
  pub clocks : (p : Entry) → Ticking 0 p (listed_by c)
  -- "clock above 64 bits" (36)
  pub too_large : c.result.number ≡ ticked_number None → NeedsMore (listed_by c) c.result.place

-- Demand 3: of one stream, a call by a table x and a call by what stays of it, with lists of one length

-- refused at an entry of the list that is the finding of a class left out, behind the entries before it
abbrev pub refused_at : Lost → Report
refused_at l = record {
  number = refusal_number l.refusal.why;
  entries = l.index;
  place = l.refusal.place.0;
  first = refusal_first l.refusal.why;
  second = refusal_second l.refusal.why;
}

pub record LeftOut (ks : ℕ → Bool) (ke : ℕ → ℕ → Bool) (short : List ℕ) (c d : Call) : Type 0 where
  -- the rest is accepted
  pub accepted : Good short
  -- c lists the finding of a class left out, as its entry number k from 0: d lists the k entries before it, and is refused there
  pub cut : (l : Lost) → missed ks ke (listed_by c) ≡ Some l
      → (d.result ≡ refused_at l) × (d.after ≡ words_of l.index c ++ came_behind l.index d)
  -- c lists none: d has its result and lists what it lists
  pub same : missed ks ke (listed_by c) ≡ None
      → (d.result ≡ c.result) × (d.after ≡ words_of c.result.entries c ++ came_behind c.result.entries d)

abbrev pub Demand3Calls : List ℕ → List ℕ → Call → Call → Type 0
Demand3Calls full short c d =
    (ks : ℕ → Bool) (ke : ℕ → ℕ → Bool) → Good full → short ≡ leave ks ke full → length d.before ≡ length c.before
    → LeftOut ks ke short c d

-- Less room: of one table and stream, a call with a list and a call with one that is no longer. It lists what there is room for of the
-- first one's entries; and its result is the same, or its number is 40
pub record LessRoom (c d : Call) : Type 0 where
  pub list : d.after ≡ words_of d.result.entries c ++ came_behind d.result.entries d
  pub entries : listed_by d ≡ take (length d.before / words_per_entry) (listed_by c)
  pub result : (d.result ≡ c.result) ⊎ (d.result.number ≡ 40)

abbrev pub LessRoomCalls : List ℕ → List ℕ → Call → Call → Type 0
LessRoomCalls x x' c d = x' ≡ x → length d.before ≤ length c.before → LessRoom c d

-- All of it: of every call that meets the contract

pub record Demands : Type 0 where
  pub demand-1 : (x b : List ℕ) (c : Call) → Contract x b c → Demand1 x b c
  pub demand-2 : (x b : List ℕ) (c : Call) → Contract x b c → Demand2 x b c
  pub demand-3 : (x x' b : List ℕ) (c d : Call) → Contract x b c → Contract x' b d → Demand3Calls x x' c d
  pub less-room : (x x' b : List ℕ) (c d : Call) → Contract x b c → Contract x' b d → LessRoomCalls x x' c d

-- and of one call, and of two of one stream, as the functions of `promises_calls` ensure it
pub record OneCall (x b : List ℕ) (c : Call) : Type 0 where
  pub demand-1 : Demand1 x b c
  pub demand-2 : Demand2 x b c

pub record TwoCalls (x x' b : List ℕ) (c d : Call) : Type 0 where
  pub first : Contract x b c
  pub second : Contract x' b d
  pub demand-3 : Demand3Calls x x' c d
  pub less-room : LessRoomCalls x x' c d
