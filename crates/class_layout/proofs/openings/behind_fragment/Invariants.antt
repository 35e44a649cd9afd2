use Prim.Native.Nat.{◌-◌, ◌+◌, ◌*◌, ◌≤◌}
use Rattle.class_layout.proofs.Turns.{RootsLeft}
use Rattle.class_layout.proofs.openings.behind_fragment.Given as goal

abbrev pub invariant-loop-number : goal.invariant-loop-number
invariant-loop-number l = RootsLeft l.table l.sizes l.fragment l.at l.number (l.number-end - l.number)
    × (l.at + (l.number-end - l.number) * 65538 ≤ 262150)
