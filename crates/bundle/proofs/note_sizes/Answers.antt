-- What the notes are good for has the sizes.
use native.Mathlib.Omega.{arith}
use Rattle.class_layout.proofs.Asked.{checked-accepts}
use Rattle.bundle.proofs.note_sizes.Goals as goal

pub prepare-requires : goal.prepare-requires
prepare-requires c =
    let k = (checked-accepts c.args.table.now _ c.requires.0).limit in
    record { table_value = c.requires.0; table_in_bounds = (omega (arith, k, c.requires.1), k) }

pub returns : goal.returns
returns c = c.prepare.ensures.ready.sized
