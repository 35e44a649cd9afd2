-- A packet's steps apart: what comes behind its header; the states in which packets start; and the lent things that they go by.
use Rattle.std.specs.Prelude.{◌≡◌, List, ℕ, ◌*◌, ◌%◌, ◌≤◌, length, None, Option}
use Rattle.rules.specs.declared.BitPlace.{BitPlace}
use Rattle.rules.specs.declared.Refusal.TheVariants.{StreamClassChanged}
use Rattle.rules.specs.Limits.{stream_limit}
use Rattle.rules.specs.Place.{bit_place}
use Rattle.rules.specs.Entry.{stream_class_found}
use Rattle.rules.specs.Slots.{Slots}
use Rattle.rules.specs.Step.{Step, ◌⨾◌, check, due}
use Rattle.rules.specs.Table.{Asked}
use Rattle.rules.specs.Packet.{mark, first_root, differs, with_stream, nothing_said}
use Rattle.listing.specs.declared.Progress.{Progress}
use Rattle.listing.specs.Did.{full}
use Rattle.class_layout.specs.Fragments.{asked_at}
use Rattle.class_layout.specs.Notes.{Notes}
use Rattle.outcome.specs.declared.Ran.{Ran}
use Rattle.outcome.specs.Ran.{RanDid}
use Rattle.event_turns.specs.Roots.{class_of, Numbered, RootStands}
use Rattle.event_turns.specs.Ready.{Ready}
use Rattle.packet_content.specs.Pieces.{behind_found}

-- behind the header: 32, the lookup and the rest
unfoldable pub behind_header : Asked → List ℕ → BitPlace → Option ℕ → Step
behind_header t b p i =
    check (λ s. differs s.said.stream i) StreamClassChanged
    ⨾ due
    ⨾ λ s. with_stream s.said.stream (t.stream s.said.stream) (λ c. mark stream_class_found 0 s.said.stream ⨾ behind_found t b p c) s

-- the state of a packet that starts
unfoldable pub fresh_state : Progress → Progress
fresh_state st = record { place = st.place; order = None; clock = record { value = 0 }; last = st.last; said = nothing_said }

-- the state in which a reading begins
unfoldable pub first_state : Progress
first_state = record { place = bit_place 0; order = None; clock = record { value = 0 }; last = 0; said = nothing_said }

-- the trace class's header and UUID, and a stream that is not too long
pub record Lent (t : List ℕ) (x : Notes) (u : List ℕ) (h : Option ℕ) (b : List ℕ) : Type 0 where
  pub ready : Ready t x
  pub stands : RootStands t h
  pub header : class_of t h ≡ (asked_at t).header
  pub numbered : Numbered t h first_root
  pub uuid : u ≡ (asked_at t).uuid
  pub small : length b ≤ stream_limit

-- where a packet starts
pub record Starts (b : List ℕ) (p : BitPlace) : Type 0 where
  pub whole : p.0 % 8 ≡ 0
  pub within : p.0 ≤ 8 * length b

-- whatever the slots hold: all are unset when a packet starts
pub record PacketDid (m : Step) (came : Progress) (r : Ran) (ws ws' : List ℕ) : Type 0 where
  pub at : (l : Slots) → RanDid (m (full came l (length ws))) came r ws ws'
