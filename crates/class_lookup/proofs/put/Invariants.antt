use mathlib.Core.Path.{◌≡◌}
use Prim.Native.Nat.{◌+◌, ◌-◌, ◌%◌}
use Rattle.class_lookup.specs.Index.{places, put_from}
use Rattle.class_lookup.proofs.put.Given as goal

abbrev pub invariant-loop-step : goal.invariant-loop-step
invariant-loop-step l =
    put_from places l.initial.index l.from l.place ≡ put_from (places - l.step) l.index ((l.from + l.step) % places) l.place
