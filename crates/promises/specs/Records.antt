-- The fifth word of an entry: "the number of the class record within its own fragment, counted from 0 at the record that opens it, and is 0
-- for entries 1 to 7. It's relative to the fragment so that leaving out other classes doesn't change it." (02, 7)
-- In order: records in a table's bytes; whose record an entry names, as the list itself tells it; the statement. Which record has a number
-- is said by the table's bytes alone: nothing here looks at the classes that the rules make of them.
use Rattle.std.specs.Prelude.{◌≡◌, ◌⊎◌, ℕ, zero, suc, ◌+◌, ◌≤◌, ◌<◌, List, [], ◌∷◌, ◌++◌, Bool, true, false, length, drop, eqb}
use Rattle.rules.specs.declared.Entry.{Entry}
use Rattle.rules.specs.Limits.{table_limit}
use Rattle.rules.specs.Entry.{packet_starts, stream_class_found, event_starts, event_class_found}
use Rattle.rules.specs.Record.{Fragment, fragment, u8, size, record_of}
use Rattle.rules.specs.Read.{read_all}
use Rattle.laws.specs.All.{All}
use Rattle.laws.specs.Owner.{Owner, nobody, of_trace, of_stream, of_event, owner_of}
use Rattle.rules.specs.Edition.{leave}
use Rattle.promises.specs.Missing.{Good}
use Rattle.promises.specs.Demands.{Call, listed_by, Contract}

-- In a table's bytes

-- the byte of the nth record, counted from 0 at the one that begins at the byte p
unfoldable pub nth : List ℕ → ℕ → ℕ → ℕ
nth t p zero = p
nth t p (suc n) = nth t p n + size (drop (nth t p n) t)

-- the nth record of an owner's fragment is of the kind k. The fragment's first record is one of the table's, and has the owner's ids; and
-- no other fragment opens up to the nth: "Kinds 1 to 5 open a fragment."
pub record Named (t : List ℕ) (o : Owner) (n k : ℕ) : Type 0 where
  pub index : ℕ
  pub opener : Fragment
  pub opens : record_of (drop (nth t 0 index) t) ≡ fragment opener
  pub owner : owner_of opener ≡ o
  pub inside : (i : ℕ) → 1 ≤ i → i ≤ n → 6 ≤ u8 t (nth t (nth t 0 index) i)
  pub kind : u8 t (nth t (nth t 0 index) n) ≡ k

-- In a list

-- the stream class of an owner, and an event class under it
unfoldable pub stream_of : Owner → Owner
stream_of nobody = nobody
stream_of of_trace = nobody
stream_of (of_stream i) = of_stream i
stream_of (of_event i j) = of_stream i

unfoldable pub event_of : Owner → ℕ → Owner
event_of nobody j = nobody
event_of of_trace j = nobody
event_of (of_stream i) j = of_event i j
event_of (of_event i k) j = of_event i j

-- whose fragment the fields behind an entry are read by, where it was o in front: behind an entry 1 the trace class's, behind an entry 2
-- and an entry 4 the stream class's, behind an entry 5 the event class's
unfoldable pub owner_behind : Owner → Entry → Owner
owner_behind o e = elim (eqb e.kind packet_starts) [
  | true ↦ of_trace
  | false ↦ elim (eqb e.kind stream_class_found) [
    | true ↦ of_stream e.value
    | false ↦ elim (eqb e.kind event_starts) [
      | true ↦ stream_of o
      | false ↦ elim (eqb e.kind event_class_found) [ true ↦ event_of o e.value | false ↦ o ]
    ]
  ]
]

-- behind an entry 5 the common context is read too, which is the stream class's
abbrev pub NamedBy : List ℕ → Owner → ℕ → ℕ → Type 0
NamedBy t nobody n k = ⊥
NamedBy t of_trace n k = Named t of_trace n k
NamedBy t (of_stream i) n k = Named t (of_stream i) n k
NamedBy t (of_event i j) n k = Named t (of_stream i) n k ⊎ Named t (of_event i j) n k

-- every entry of a field names a record of its kind in the fragment that it was read by, and every other entry has 0
abbrev pub Names : List ℕ → Owner → List Entry → Type 0
Names t o [] = Unit {0}
Names t o (e ∷ es) =
    (16 ≤ e.kind → NamedBy t o e.number e.kind) × (e.kind < 16 → e.number ≡ 0) × Names t (owner_behind o e) es

-- the number of a list's entry, by its index from 0
unfoldable pub number_in : ℕ → List Entry → ℕ
number_in k [] = 0
number_in zero (e ∷ es) = e.number
number_in (suc k) (e ∷ es) = number_in k es

abbrev pub SameNumbers : List Entry → List Entry → Type 0
SameNumbers short full = (k : ℕ) → k < length short → number_in k short ≡ number_in k full

pub record Records : Type 0 where
  -- by an accepted table x: of a reading, and of every call that meets the contract
  pub names : (x : List ℕ) → Good x → (b : List ℕ) (room : ℕ) → Names x nobody (read_all x b room).entries
  pub names-called : (x b : List ℕ) (c : Call) → Good x → Contract x b c → Names x nobody (listed_by c)
  -- a number is below 65,536
  pub small : (x b : List ℕ) (room : ℕ) → All (λ e. e.number < table_limit) (read_all x b room).entries
  -- leaving classes out changes none: each entry of the short list has the number that the full list's has, at the same index
  pub left_out : (ks : ℕ → Bool) (ke : ℕ → ℕ → Bool) (x : List ℕ) → Good x → (b : List ℕ) (room : ℕ)
      → SameNumbers (read_all (leave ks ke x) b room).entries (read_all x b room).entries
  pub left-out-called : (ks : ℕ → Bool) (ke : ℕ → ℕ → Bool) (x b : List ℕ) (c d : Call) → Good x → Contract x b c
      → Contract (leave ks ke x) b d → length d.before ≡ length c.before → SameNumbers (listed_by d) (listed_by c)
  -- a fragment's records are counted by its own bytes f, whatever stands before and behind them
  pub own-bytes : (before f behind : List ℕ) (n : ℕ) → nth f 0 n < length f
      → nth (before ++ (f ++ behind)) (length before) n ≡ length before + nth f 0 n
