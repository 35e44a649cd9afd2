-- An event that starts, whether a field of it is opened, and an event that ends, as the code says it.
use Rattle.std.specs.Prelude.{Bool, true, false, ℕ, eqb, ltb, Ok}
use Rattle.rules.specs.declared.Refusal.TheVariants.{EventTookNoBits}
use Rattle.rules.specs.Verdict.{stop_at}
use Rattle.listing.specs.declared.Progress.{Progress}
use Rattle.outcome.specs.declared.Ran.{Ran}
use Rattle.outcome.specs.Ran.{stopped_ran}

-- the state of an event that starts: its id is 0 until its header says one
abbrev pub start_state : Progress → Progress
start_state st = record {
  place = st.place;
  order = st.order;
  clock = st.clock;
  last = st.last;
  said = record { stream = st.said.stream; total = st.said.total; content = st.said.content; ending = st.said.ending; event = 0 };
}

-- how many runs can be put off for others in front of them
abbrev pub runs : ℕ
runs = 2

-- a field is opened in its run, or in one of its own where so many are put off
unfoldable pub opens_at : Bool → ℕ → Bool
opens_at here off = elim here [ true ↦ true | false ↦ ltb off runs ]

-- an event that ends in a state with so many words listed, by the state in which it began: 38, if the place did not move
unfoldable pub ended_ran : ℕ → Progress → Progress → Ran
ended_ran n st came = elim (eqb st.place.0 came.place.0) [
  | true ↦ stopped_ran (stop_at EventTookNoBits st.place) n came
  | false ↦ record { went = Ok tt; used = n; state = st }
]
