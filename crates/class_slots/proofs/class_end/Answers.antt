-- Past the sizes none is noted, so the sum fits; where one is noted the byte lies among them, and leaves room behind the sum.
use mathlib.Core.Path.{ap}
use Prim.Native.Nat.{◌+◌}
use native.Mathlib.Omega.{arith}
use Rattle.class_slots.proofs.Rounds.{end_fits, end_low}
use Rattle.class_slots.proofs.class_end.Goals as goal

pub overflow_add-result : goal.overflow_add-result
overflow_add-result c =
    let e = c.noted_size.ensures in
    record { fits = end_fits c.args.sizes.now c.args.at (omega (arith, c.well_formed.0)) e.0 e.1 c.ranges.at.fits }

pub returns : goal.returns
returns c =
    let e = c.noted_size.ensures in
    (ap (λ n. c.args.at + n) e.0, end_low c.args.sizes.now c.args.at (omega (arith, c.well_formed.0)) e.0 e.1)
