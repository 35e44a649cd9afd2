use mathlib.Core.Path.{◌≡◌}
use Prim.Native.Nat.{◌+◌, ◌-◌, ◌^◌, ◌<◌, ◌≤◌}
use Rattle.table_offsets.specs.Check.{number_at}
use Rattle.table_bytes.proofs.number.Given as goal

abbrev pub invariant-loop-i : goal.invariant-loop-i
invariant-loop-i l = (l.i ≤ l.n) × ((l.v ≡ number_at l.table (l.at + l.i) (l.n - l.i)) × (l.v < 256 ^ (l.n - l.i)))
