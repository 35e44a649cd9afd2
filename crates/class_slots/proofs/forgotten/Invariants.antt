use Prim.Native.Nat.{◌-◌, ◌<◌, ◌^◌}
use Rattle.class_slots.proofs.Rounds.{Forgot}
use Rattle.class_slots.proofs.forgotten.Given as goal

abbrev pub invariant-loop-next : goal.invariant-loop-next
invariant-loop-next l = (l.next < l.end → l.end < 2 ^ 63) × Forgot l.table l.sizes l.at l.initial.slots l.end l.slots l.next

abbrev pub decreases-loop-next : goal.decreases-loop-next
decreases-loop-next l = l.end - l.next
