use mathlib.Core.Path.{◌≡◌}
use Prim.Native.Nat.{◌-◌}
use lib.ListN.{length}
use Rattle.screen_clock.specs.Frequency.{frequency_from}
use Rattle.screen_clock.proofs.frequency.Given as goal

abbrev pub invariant-loop-turn : goal.invariant-loop-turn
invariant-loop-turn l = frequency_from (length l.table) l.table 0 l.clock ≡ frequency_from (length l.table - l._turn) l.table l.at l.clock
