-- An event's steps behind its header, and the state behind a turn as the code says it.
use Rattle.std.specs.Prelude.{ℕ, ◌&&◌, ltb}
use Rattle.rules.specs.declared.Refusal.TheVariants.{ClockWentBack}
use Rattle.rules.specs.Entry.{event_class_found}
use Rattle.rules.specs.Step.{Step, ◌⨾◌, check, due, change, with_last}
use Rattle.rules.specs.Field.{Env}
use Rattle.rules.specs.Table.{StreamClass, Asked}
use Rattle.rules.specs.Packet.{mark, with_event}
use Rattle.listing.specs.declared.Progress.{Progress}
use Rattle.event_turns.specs.Roots.{parts_of}

-- behind the header: 39; the lookup (37); entry 5, and the other roots
unfoldable pub body_of : Asked → StreamClass → Env → Step
body_of t c e =
    check (λ s. c.timed && ltb s.clock s.last) ClockWentBack
    ⨾ change (λ s. with_last s.clock s)
    ⨾ due
    ⨾ λ s. with_event c.id s.said.event (t.event c.id s.said.event)
    (λ d. mark event_class_found 0 s.said.event ⨾ parts_of e c d) s

-- the same state, with the clock that the next event's is held to
abbrev pub held_to : ℕ → Progress → Progress
held_to clock st = record { place = st.place; order = st.order; clock = st.clock; last = clock; said = st.said }
