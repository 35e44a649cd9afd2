-- What an accepted class table says. A reading uses it by its UUID and header, and by two lookups.
use Rattle.std.specs.Prelude.{ℕ, List, [], ◌∷◌, Bool, true, false, ◌&&◌, eqb, Option, None, Some}
use Rattle.rules.specs.Class.{Class}

-- fragments of kinds 4 and 5, each root a class that is there or not
pub record StreamClass : Type 0 where
  pub id : ℕ
  pub timed : Bool
  pub context : Option Class
  pub header : Option Class
  pub common : Option Class

pub record EventClass : Type 0 where
  pub stream : ℕ
  pub id : ℕ
  pub specific : Option Class
  pub payload : Option Class

pub record Table : Type 0 where
  pub uuid : List ℕ
  pub header : Option Class
  pub streams : List StreamClass
  pub events : List EventClass

-- the class that has an id exactly, or none (33); the event class that has both ids exactly, or none (37). (000 6.1, step 3; 6.2, step 2)
unfoldable pub find_stream : List StreamClass → ℕ → Option StreamClass
find_stream [] i = None
find_stream (c ∷ cs) i = elim (eqb c.id i) [ true ↦ Some c | false ↦ find_stream cs i ]

unfoldable pub find_event : List EventClass → ℕ → ℕ → Option EventClass
find_event [] i j = None
find_event (c ∷ cs) i j = elim (eqb c.stream i && eqb c.id j) [ true ↦ Some c | false ↦ find_event cs i j ]

-- all that a reading asks a table
pub record Asked : Type 0 where
  pub uuid : List ℕ
  pub header : Option Class
  pub stream : ℕ → Option StreamClass
  pub event : ℕ → ℕ → Option EventClass

unfoldable pub asked : Table → Asked
asked t = record { uuid = t.uuid; header = t.header; stream = find_stream t.streams; event = find_event t.events }
