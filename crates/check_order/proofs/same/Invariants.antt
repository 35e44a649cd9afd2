use mathlib.Core.Path.{◌≡◌}
use Prim.Native.Nat.{◌≤◌}
use Rattle.table_offsets.specs.Check.{same}
use Rattle.check_order.proofs.same.Given as goal

abbrev pub invariant-loop-i : goal.invariant-loop-i
invariant-loop-i l = (l.i ≤ l.n) × (same l.table l.a l.b l.n ≡ same l.table l.a l.b l.i)
