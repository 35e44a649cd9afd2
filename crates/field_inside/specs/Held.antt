-- What a reading of the fields inside rests on: their classes stand whole, one depth less, and their place lies where the packet does.
use Rattle.std.specs.Prelude.{ℕ, ◌≤◌, List}
use Rattle.rules.specs.declared.BitPlace.{BitPlace}
use Rattle.frame.specs.declared.Frame.{Frame}
use Rattle.class_layout.specs.Trees.{stood_at, WholeMembers, IsWhole}
use Rattle.field_inside.specs.declared.look.Inside.{Inside}
use Rattle.field_inside.specs.declared.look.Inside.TheVariants.{Members, Elements, Refused}

-- from a place on, in the packet and up to the bound
pub record Placed (f : Frame) (from p : BitPlace) : Type 0 where
  pub begun : f.start.0 ≤ p.0
  pub within : p.0 ≤ f.bound.0
  pub onward : from.0 ≤ p.0

pub record HeldMembers (d : ℕ) (t : List ℕ) (f : Frame) (from p : BitPlace) (at n : ℕ) : Type 0 where
  pub place : Placed f from p
  pub classes : WholeMembers (IsWhole d t) (stood_at d t) at n

pub record HeldElements (d : ℕ) (t : List ℕ) (f : Frame) (from p : BitPlace) (at : ℕ) : Type 0 where
  pub place : Placed f from p
  pub class : IsWhole d t at

unfoldable pub Held : ℕ → List ℕ → Frame → BitPlace → Inside → Type 0
Held d t f from (Members p v at n) = HeldMembers d t f from p at n
Held d t f from (Elements p v at n) = HeldElements d t f from p at
Held d t f from (Refused v) = Unit {0}
