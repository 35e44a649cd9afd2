use Prim.Native.Nat.{◌*◌, ◌≤◌}
use Rattle.text.specs.Reading.{plain_length}
use Rattle.text.proofs.plain_eights.Given as goal

abbrev pub invariant-loop-i : goal.invariant-loop-i
invariant-loop-i l = 8 * l.i ≤ plain_length l.bytes
