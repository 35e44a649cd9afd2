use mathlib.Core.Path.{◌≡◌}
use Prim.Native.Nat.{◌+◌, ◌≤◌}
use lib.ListN.{length, take, drop}
use lib.Seq.{sets}
use Rattle.screen_text.specs.Escape.{part}
use Rattle.screen_text.proofs.put_part.Given as goal

abbrev pub invariant-loop-shown : goal.invariant-loop-shown
invariant-loop-shown l =
    (l.end ≡ l.at + length (part (take l.bytes (drop l.from l.stream)) l.done l.shown)) × (l.out ≡ sets l.initial.out l.at
    (part (take l.bytes (drop l.from l.stream)) l.done l.shown))
    × (l.shown ≤ l.n) × (length l.out ≡ length l.initial.out)
