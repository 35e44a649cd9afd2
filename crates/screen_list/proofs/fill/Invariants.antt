use Prim.Native.Nat.{◌≤◌, max}
use lib.ListN.{length}
use Rattle.screen_list.proofs.Fills.{Filling}
use Rattle.screen_list.proofs.fill.Given as goal

abbrev pub invariant-loop-at : goal.invariant-loop-at
invariant-loop-at l =
    Filling l.table l.stream l.list l.count (length l.initial.out) l.initial.out l.mark.entry l.initial.piece
    l.initial.frequency l.out l.used l.at l.piece l.frequency
    × (l.at ≤ max l.mark.entry l.count)
