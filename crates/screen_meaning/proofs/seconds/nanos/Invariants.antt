use Prim.Native.Nat.{◌≤◌}
use Rattle.screen_meaning.proofs.Turns.{Cut}
use Rattle.screen_meaning.proofs.seconds.nanos.Given as goal

abbrev pub invariant-loop-digit : goal.invariant-loop-digit
invariant-loop-digit l = Cut l.frequency l.part l.left l.found l._digit × (l._digit ≤ 9)
