use Prim.Native.Nat.{◌≤◌}
use Rattle.screen_meaning.proofs.Turns.{Turned}
use Rattle.screen_meaning.proofs.seconds.tenfold.Given as goal

abbrev pub invariant-loop-turn : goal.invariant-loop-turn
invariant-loop-turn l = Turned l.frequency l.part l.whole l.left l._turn × (l._turn ≤ 10)
