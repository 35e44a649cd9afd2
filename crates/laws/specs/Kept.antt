-- "Slots 0 to 15 are set by packet roots (0, 1), 16 to 63 by event roots" (The class table): an event's roots keep the packet's slots, and
-- a packet's roots leave slots 16 to 63 unset.
use Rattle.std.specs.Prelude.{◌≡◌, ℕ, List, Option, Some}
use Rattle.rules.specs.declared.Entry.{Entry}
use Rattle.rules.specs.Slots.{packet_slots}
use Rattle.rules.specs.Step.{State, go}
use Rattle.rules.specs.Class.{Class}
use Rattle.rules.specs.Field.{Env}
use Rattle.rules.specs.Table.{StreamClass, EventClass, Asked}
use Rattle.rules.specs.Packet.{read_root}

abbrev pub RootKeeps : Option Class → Type 0
RootKeeps c =
    (e : Env) (m : ℕ) (s : State) (es : List Entry) (s' : State) → read_root e m c s ≡ go es s'
    → packet_slots s'.slots ≡ packet_slots s.slots

abbrev pub LeavesUnset : Option Class → Type 0
LeavesUnset c =
    (e : Env) (m : ℕ) (s : State) (es : List Entry) (s' : State) → read_root e m c s ≡ go es s' → packet_slots s.slots ≡ s.slots
    → packet_slots s'.slots ≡ s'.slots

-- the packet's header and context; and an event's roots
pub record KeepsSlots (a : Asked) : Type 0 where
  pub packet : LeavesUnset a.header
  pub context : (i : ℕ) (c : StreamClass) → a.stream i ≡ Some c → LeavesUnset c.context
  pub header : (i : ℕ) (c : StreamClass) → a.stream i ≡ Some c → RootKeeps c.header
  pub common : (i : ℕ) (c : StreamClass) → a.stream i ≡ Some c → RootKeeps c.common
  pub specific : (i j : ℕ) (d : EventClass) → a.event i j ≡ Some d → RootKeeps d.specific
  pub payload : (i j : ℕ) (d : EventClass) → a.event i j ≡ Some d → RootKeeps d.payload
