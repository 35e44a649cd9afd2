-- What every step of a reading of fields rests on.
use Rattle.std.specs.Prelude.{ℕ, ◌*◌, ◌%◌, ◌^◌, ◌<◌, ◌≤◌, ◌≡◌, List, length}
use Rattle.rules.specs.declared.BitPlace.{BitPlace}
use Rattle.rules.specs.Place.{bit_place, align_from}
use Rattle.rules.specs.Field.{Env}
use Rattle.frame.specs.declared.Frame.{Frame}

-- what the rules' reading of fields rests on, of a stream, a UUID and a frame
abbrev pub env_of : List ℕ → List ℕ → Frame → Env
env_of bytes uuid f = record { bytes = bytes; start = f.start; bound = f.bound; uuid = uuid }

-- a packet starts at a whole byte, the place is not before it nor behind the bound, and the bound lies in the stream
pub record Framed (bytes : List ℕ) (f : Frame) (p : BitPlace) : Type 0 where
  pub whole : f.start.0 % 8 ≡ 0
  pub begun : f.start.0 ≤ p.0
  pub within : p.0 ≤ f.bound.0
  pub ends : f.bound.0 ≤ 8 * length bytes
  pub small : 8 * length bytes < 2 ^ 60

-- "A field aligns (place - P) up to its requirement"
unfoldable pub aligned_at : Frame → ℕ → BitPlace → BitPlace
aligned_at f a p = bit_place (align_from f.start.0 a p.0)
