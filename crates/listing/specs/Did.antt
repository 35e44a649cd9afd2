-- What a step did, as the code says it: how it went, the words that it listed, the state and the slots behind it, and the list.
use Rattle.std.specs.Prelude.{ℕ, ◌-◌, ◌*◌, ◌≤◌, ◌≡◌, List, ◌++◌, length, drop, Ok, Err, Result, ⊤}
use Rattle.rules.specs.declared.BitPlace.{BitPlace}
use Rattle.rules.specs.declared.Entry.{Entry}
use Rattle.rules.specs.declared.Stop.{Stop}
use Rattle.rules.specs.Limits.{words_per_entry}
use Rattle.rules.specs.Slots.{Slots}
use Rattle.rules.specs.Entry.{words}
use Rattle.rules.specs.Step.{State, Out, stop, go, Step}
use Rattle.listing.specs.declared.Progress.{Progress}
use Rattle.listing.specs.declared.role.Roled.{Roled}

-- the rules' state that a state, the slots and the words left in the list stand for
abbrev pub full : Progress → Slots → ℕ → State
full st l room = record {
  place = st.place;
  room = room;
  slots = l;
  order = st.order;
  clock = st.clock.value;
  last = st.last;
  said = st.said;
}

-- the same state at a place
abbrev pub at_place : BitPlace → Progress → Progress
at_place p st = record { place = p; order = st.order; clock = st.clock; last = st.last; said = st.said }

unfoldable pub out_of : List Entry → Result ⊤ Stop → Progress → Slots → ℕ → Out
out_of es (Ok u) st l room = go es (full st l room)
out_of es (Err v) st l room = stop es v

-- o is the rules' outcome, `came` the state before, ws the list before and ws' behind. Nothing is left open: entries, words, state and
-- list are those of o, and a step that stopped hands back the state as it came
pub record Did (o : Out) (came : Progress) (went : Result ⊤ Stop) (used : ℕ) (st : Progress) (l : Slots) (ws ws' : List ℕ) : Type 0 where
  pub listed : List Entry
  pub out : o ≡ out_of listed went st l (length ws - used)
  pub counted : used ≡ words_per_entry * length listed
  pub list : ws' ≡ words listed ++ drop used ws
  pub room : used ≤ length ws
  pub kept : (v : Stop) → went ≡ Err v → st ≡ came

-- what a role did: it sets no slot
pub record RoleDid (m : Step) (st : Progress) (r : Roled) (ws ws' : List ℕ) : Type 0 where
  pub at : (l : Slots) → Did (m (full st l (length ws))) st r.went r.used r.state l ws ws'
