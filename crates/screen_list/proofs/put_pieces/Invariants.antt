use Prim.Native.Nat.{◌≤◌, max}
use lib.ListN.{length}
use Rattle.screen_head.specs.Head.{five_of}
use Rattle.screen_list.proofs.Pieces.{Lays}
use Rattle.screen_list.proofs.put_pieces.Given as goal

abbrev pub invariant-loop-i : goal.invariant-loop-i
invariant-loop-i l =
    Lays l.stream l.frequency (five_of l.entry) l.count (length l.initial.out) l.initial.out l.used l.piece l.out l.end l.i
    × (l.i ≤ max l.piece l.count)
