-- What a part of a reading did that hands no slots on, as the code says it.
use Rattle.std.specs.Prelude.{ℕ, ◌+◌, ◌≡◌, List, length, Ok, Err, Result, ⊤}
use Rattle.rules.specs.declared.Stop.{Stop}
use Rattle.rules.specs.Slots.{Slots, packet_slots}
use Rattle.rules.specs.Step.{Out, Step}
use Rattle.listing.specs.declared.Progress.{Progress}
use Rattle.listing.specs.Did.{Did, full}
use Rattle.outcome.specs.declared.Ran.{Ran}

-- the slots behind it are what the rules say, and no one asks for them
pub record RanDid (o : Out) (came : Progress) (r : Ran) (ws ws' : List ℕ) : Type 0 where
  pub slots : Slots
  pub did : Did o came r.went r.used r.state slots ws ws'

-- within an event: slots 0 to 15 are as they were
pub record EventDid (m : Step) (came : Progress) (l : Slots) (r : Ran) (ws ws' : List ℕ) : Type 0 where
  pub slots : Slots
  pub kept : packet_slots slots ≡ packet_slots l
  pub did : Did (m (full came l (length ws))) came r.went r.used r.state slots ws ws'

-- what stopped hands back the state as it came
abbrev pub stopped_ran : Stop → ℕ → Progress → Ran
stopped_ran v n st = record { went = Err v; used = n; state = st }

-- a whole whose last part went so: what stopped hands back the state in which the whole began
unfoldable pub gone_ran : Result ⊤ Stop → ℕ → Progress → Progress → Ran
gone_ran (Ok u) n st came = record { went = Ok tt; used = n; state = st }
gone_ran (Err v) n st came = stopped_ran v n came

abbrev pub last_ran : ℕ → Ran → Progress → Ran
last_ran n r came = gone_ran r.went (n + r.used) r.state came
