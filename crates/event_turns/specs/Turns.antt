-- An event's turns in the rules' words: what is left of an event from a turn on.
use Rattle.std.specs.Prelude.{ℕ, zero, suc, ◌≤◌, List}
use Rattle.rules.specs.Step.{Step, ◌⨾◌, pass}
use Rattle.rules.specs.Field.{Env}
use Rattle.rules.specs.Table.{StreamClass, EventClass, Asked}
use Rattle.rules.specs.Packet.{read_root, first_root, header_number, payload_number}
use Rattle.class_layout.specs.Fragments.{stream_class_at, event_class_at, asked_at}
use Rattle.class_layout.specs.Sizes.{SizedFragment}
use Rattle.event_turns.specs.Roots.{parts_of}
use Rattle.event_turns.specs.declared.Asking.{Asking}
use Rattle.event_turns.specs.Event.{body_of}

-- what is left of an event from a turn on, where d is its class
unfoldable pub turns_from : Asked → StreamClass → Env → EventClass → ℕ → Step
turns_from a c e d zero = read_root e (header_number c) c.header ⨾ body_of a c e
turns_from a c e d (suc zero) = body_of a c e
turns_from a c e d (suc (suc zero)) = parts_of e c d
turns_from a c e d (suc (suc (suc zero))) = read_root e first_root d.specific ⨾ read_root e (payload_number d) d.payload
turns_from a c e d (suc (suc (suc (suc zero)))) = read_root e (payload_number d) d.payload
turns_from a c e d (suc (suc (suc (suc (suc n))))) = pass

-- the same of a table, where the event's class stands at a byte
abbrev pub turns_at : List ℕ → Asking → Env → ℕ → ℕ → Step
turns_at t w e class turn = turns_from (asked_at t) (stream_class_at t w.class) e (event_class_at t class) turn

-- a turn behind the header's; behind the lookup's, an event class stands at the byte
abbrev pub Known : List ℕ → List ℕ → ℕ → ℕ → Type 0
Known t s turn class = (1 ≤ turn) × (2 ≤ turn → SizedFragment t s class)
