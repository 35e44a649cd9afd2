use Prim.Native.Nat.{◌-◌}
use Rattle.class_layout.proofs.Reached.{MembersLeft}
use Rattle.class_reach.proofs.reach_members.Given as goal

abbrev pub invariant-loop : goal.invariant-loop
invariant-loop l = MembersLeft l.sizes l.aligns l.at l.count l.next l.align l.sets (l.count - l.counter)
