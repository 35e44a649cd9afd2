-- How the state behind a removed packet differs from that of the stream without it.
use Rattle.std.specs.Prelude.{Some, Option}
use mathlib.Core.Path.{◌≡◌}
use Prim.Native.Nat.{ℕ, ◌+◌, ◌*◌, ◌%◌, ◌≤◌}
use mathlib.Core.Bool.{true, false}
use Rattle.rules.specs.Step.{State}
use Rattle.rules.specs.Table.{StreamClass, Asked}
use Rattle.rules.specs.Packet.{differs}

pub record Onwards (t : Asked) (total from k k' : ℕ) (i i' : Option ℕ) (s s' : State) : Type 0 where
  -- the place is lower by the total, at a whole byte, behind the gap
  pub place : s'.place.0 + total ≡ s.place.0
  pub whole : s.place.0 % 8 ≡ 0
  pub behind : 8 * from ≤ s.place.0
  -- there is as much room, or more
  pub room : s.room ≤ s'.room
  -- the number is lower by one
  pub number : k ≡ k' + 1
  -- the first packet's class, if one is known, is that of the packets before
  pub class : ℕ
  pub first : i ≡ Some class
  pub same : differs class i' ≡ false
  -- the last clock is no higher, where there is a clock
  pub last : (c : StreamClass) → t.stream class ≡ Some c → c.timed ≡ true → s'.last ≤ s.last
