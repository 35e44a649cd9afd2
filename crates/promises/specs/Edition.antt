-- Editions of a table: stream classes and event classes left out by their ids, of what a table says; and what its bytes then say.
use Rattle.std.specs.Prelude.{◌≡◌, ℕ, List, [], ◌∷◌, Bool, true, false}
use Rattle.rules.specs.Table.{StreamClass, EventClass, Table}
use Rattle.rules.specs.Parse.{good, parse}
use Rattle.rules.specs.Edition.{both, leave}

-- What stays of what a table says, by a test of its ids

unfoldable pub keep_events : (ℕ → ℕ → Bool) → List EventClass → List EventClass
keep_events k [] = []
keep_events k (c ∷ cs) = elim (k c.stream c.id) [ true ↦ c ∷ keep_events k cs | false ↦ keep_events k cs ]

unfoldable pub keep_streams : (ℕ → Bool) → List StreamClass → List StreamClass
keep_streams k [] = []
keep_streams k (c ∷ cs) = elim (k c.id) [ true ↦ c ∷ keep_streams k cs | false ↦ keep_streams k cs ]

unfoldable pub keep : (ℕ → Bool) → (ℕ → ℕ → Bool) → Table → Table
keep ks ke t = record { uuid = t.uuid; header = t.header; streams = keep_streams ks t.streams; events = keep_events ke t.events }

-- where every class stays, so does every byte
abbrev pub NothingLeft : Type 0
NothingLeft = (x : List ℕ) → leave (λ i. true) (λ i j. true) x ≡ x

-- an accepted table's edition is accepted, and says what it said without the classes left out
abbrev pub Editions : Type 0
Editions =
    (ks : ℕ → Bool) (ke : ℕ → ℕ → Bool) (x : List ℕ) (t : Table) (y : List ℕ) → parse x ≡ good t y
    → parse (leave ks ke x) ≡ good (keep ks (both ks ke) t) []
