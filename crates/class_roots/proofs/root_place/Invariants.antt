use Prim.Native.Nat.{◌-◌, ◌+◌, ◌*◌, ◌≤◌}
use Rattle.class_layout.proofs.Turns.{Turn}
use Rattle.class_roots.proofs.root_place.Given as goal

abbrev pub invariant-loop-earlier : goal.invariant-loop-earlier
invariant-loop-earlier l = Turn l.table l.sizes l.fragment l.turn l.at l.earlier (l.number - l.earlier)
    × (l.at + (l.number - l.earlier) * 65538 ≤ 196612)
