use Prim.Native.Nat.{◌-◌}
use Rattle.class_layout.specs.Notes.{notes}
use Rattle.class_layout.proofs.Reached.{OptionsLeft}
use Rattle.class_reach.proofs.reach_options.Given as goal

abbrev pub invariant-loop : goal.invariant-loop
invariant-loop l = OptionsLeft l.table (notes l.sizes l.aligns) l.at l.count l.next l.sets (l.count - l.counter)
