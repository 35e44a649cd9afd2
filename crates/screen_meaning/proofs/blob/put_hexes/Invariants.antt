use mathlib.Core.Path.{◌≡◌}
use Prim.Native.Nat.{◌+◌, ◌≤◌}
use lib.ListN.{length, take, drop}
use lib.Seq.{sets}
use Rattle.screen_meaning.specs.Bytes.{hexes}
use Rattle.screen_meaning.proofs.blob.put_hexes.Given as goal

abbrev pub invariant-loop-shown : goal.invariant-loop-shown
invariant-loop-shown l =
    (l.end ≡ l.at + length (hexes (take l.shown (take l.n (drop l.from l.stream)))))
    × (l.out ≡ sets l.initial.out l.at (hexes (take l.shown (take l.n (drop l.from l.stream)))))
    × (l.shown ≤ l.n) × (length l.out ≡ length l.initial.out)
