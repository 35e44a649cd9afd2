-- What the reading of a field did, as the code says it, with all slots.
use Rattle.rules.specs.declared.Order.{Order}
use Rattle.std.specs.Prelude.{ℕ, ◌+◌, ◌≡◌, List, length, Option, Ok, Err, Result, ⊤}
use Rattle.rules.specs.declared.BitPlace.{BitPlace}
use Rattle.rules.specs.declared.Stop.{Stop}
use Rattle.rules.specs.Limits.{slot_count, words_per_entry}
use Rattle.rules.specs.Slots.{Slots}
use Rattle.rules.specs.Step.{Step}
use Rattle.listing.specs.declared.Progress.{Progress}
use Rattle.listing.specs.Did.{Did, full}
use Rattle.field_read.specs.declared.Field.{Field}

-- what a field did; one that stopped hands back the slots as they came
pub record FieldReads (m : Step) (st : Progress) (l : Slots) (r : Field) (ws ws' : List ℕ) : Type 0 where
  pub did : Did (m (full st l (length ws))) st r.went r.used r.state r.slots ws ws'
  pub kept : (v : Stop) → r.went ≡ Err v → r.slots ≡ l
  pub many : length r.slots ≡ slot_count

abbrev pub stopped_field : Stop → ℕ → Progress → Slots → Field
stopped_field v n st l = record { went = Err v; used = n; state = st; slots = l }

-- by how what is inside a field went, and so many words: what stopped hands back the state and the slots that came
unfoldable pub gone : Result ⊤ Stop → ℕ → Progress → Slots → Progress → Slots → Field
gone (Ok u) n st l came given = record { went = Ok tt; used = n; state = st; slots = l }
gone (Err v) n st l came given = stopped_field v n came given

-- a field whose entry was listed, by what is inside it
abbrev pub entered : Field → Progress → Slots → Field
entered r came given = gone r.went (words_per_entry + r.used) r.state r.slots came given

-- the same state at a place and an order
abbrev pub state_at : BitPlace → Option Order → Progress → Progress
state_at p o st = record { place = p; order = o; clock = st.clock; last = st.last; said = st.said }
