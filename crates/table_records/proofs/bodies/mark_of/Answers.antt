-- The code's constant is the list of the rules' rows: antt computes both to the same numbers.
use native.Mathlib.Omega.{arith}
use Rattle.rules.specs.Record.{no, bits_layout, layouts}
use Rattle.table_offsets.specs.Bodies.{known, mark}
use Rattle.table_offsets.proofs.Rows.{marks, mark-at, mark-above}
use Rattle.table_records.proofs.bodies.mark_of.Goals as goal

pub returns-then-kind-gt-LAST_KIND : goal.returns-then-kind-gt-LAST_KIND
returns-then-kind-gt-LAST_KIND c = mark-above c.args.kind (omega arith)

pub returns : goal.returns
unfolding marks mark known layouts no bits_layout
returns c = mark-at _ (omega arith)
