use mathlib.Core.Path.{◌≡◌}
use Prim.Native.Nat.{◌-◌}
use lib.ListN.{length}
use Rattle.screen_clock.specs.Frequency.{clock_from}
use Rattle.screen_clock.proofs.clock_of.Given as goal

abbrev pub invariant-loop-turn : goal.invariant-loop-turn
invariant-loop-turn l = clock_from (length l.table) l.table 0 l.id ≡ clock_from (length l.table - l._turn) l.table l.at l.id
