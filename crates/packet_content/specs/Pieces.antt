-- A packet behind the lookup of its stream class: its frame until its lengths are known, its steps, and the lent things that it goes by.
use Rattle.std.specs.Prelude.{◌≡◌, List, ℕ, ◌-◌, ◌*◌, ◌≤◌, length}
use Rattle.rules.specs.declared.BitPlace.{BitPlace}
use Rattle.rules.specs.Limits.{stream_limit}
use Rattle.rules.specs.Place.{bit_place}
use Rattle.rules.specs.Step.{Step, ◌⨾◌}
use Rattle.rules.specs.Field.{Env}
use Rattle.rules.specs.Table.{StreamClass, Asked}
use Rattle.rules.specs.Packet.{read_root, first_root, or_else, read_content}
use Rattle.frame.specs.declared.Frame.{Frame}
use Rattle.class_layout.specs.Fragments.{asked_at}
use Rattle.class_layout.specs.Notes.{Notes}
use Rattle.event_turns.specs.Ready.{Ready}

-- "The bound is the stream's end until the packet's lengths are known"
abbrev pub whole_frame : List ℕ → BitPlace → Frame
whole_frame b p = record { start = p; bound = bit_place (8 * length b) }

abbrev pub packet_env : Asked → List ℕ → BitPlace → Env
packet_env t b p = record { bytes = b; start = p; bound = bit_place (8 * length b); uuid = t.uuid }

-- behind the lookup and entry 2: the context, and what comes behind the lengths
unfoldable pub behind_found : Asked → List ℕ → BitPlace → StreamClass → Step
behind_found t b p c =
    read_root (packet_env t b p) first_root c.context
    ⨾ λ s. let rest = 8 * length b - p.0 in
    read_content t c b p (or_else s.said.total s.said.content rest) (or_else s.said.content s.said.total rest) s

-- an accepted table, the UUID that it states, and a stream that is not too long
pub record Readable (t : List ℕ) (x : Notes) (u : List ℕ) (b : List ℕ) : Type 0 where
  pub ready : Ready t x
  pub uuid : u ≡ (asked_at t).uuid
  pub small : length b ≤ stream_limit
