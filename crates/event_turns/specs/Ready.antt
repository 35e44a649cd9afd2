-- What the steps of a reading rest on: an accepted table with its notes, and what a packet's events ask of their stream class.
use Rattle.std.specs.Prelude.{ℕ, ◌≡◌, List, Some}
use Rattle.rules.specs.Packet.{header_number, common_number}
use Rattle.laws.specs.Kept.{KeepsSlots}
use Rattle.class_layout.specs.Fragments.{stream_class_at, asked_at}
use Rattle.class_layout.specs.Notes.{Notes, Prepared}
use Rattle.event_turns.specs.Roots.{class_of, Numbered, RootStands}
use Rattle.event_turns.specs.declared.Asking.{Asking}

-- a table that the check accepted, with its notes; its roots keep to their slots
pub record Ready (t : List ℕ) (x : Notes) : Type 0 where
  pub noted : Prepared t x
  pub keeps : KeepsSlots (asked_at t)

-- the stream class that a packet's events belong to
pub record OfStream (t : List ℕ) (w : Asking) : Type 0 where
  pub found : (asked_at t).stream w.id ≡ Some (stream_class_at t w.class)
  pub id : w.id ≡ (stream_class_at t w.class).id
  pub timed : w.timed ≡ (stream_class_at t w.class).timed
  pub header : class_of t w.header ≡ (stream_class_at t w.class).header
  pub common : class_of t w.common ≡ (stream_class_at t w.class).common
  pub header_stands : RootStands t w.header
  pub common_stands : RootStands t w.common
  pub header_numbered : Numbered t w.header (header_number (stream_class_at t w.class))
  pub common_numbered : Numbered t w.common (common_number (stream_class_at t w.class))
