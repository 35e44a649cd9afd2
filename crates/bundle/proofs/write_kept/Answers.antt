-- How many bytes stay decides: 45, or they are copied.
use native.Mathlib.Omega.{arith}
use Rattle.bundle_table.specs.Kept.{kept}
use Rattle.bundle.proofs.Answers.{short-fits, whole-fits}
use Rattle.bundle.proofs.write_kept.Goals as goal

pub returns-then-out-length : goal.returns-then-out-length
returns-then-out-length c =
    let a = c.args in
    short-fits (kept a.table.now a.marks.now) a.out.now _ c.kept_length-length.ensures c.if-out-length.true

pub copy_kept-requires : goal.copy_kept-requires
copy_kept-requires c = (c.requires.0, c.requires.1, omega (arith, c.kept_length-length.ensures, c.if-out-length.false))

pub returns : goal.returns
returns c =
    let a = c.args in
    whole-fits (kept a.table.now a.marks.now) a.out.now _ c.kept_length-length.ensures c.if-out-length.false c.copy_kept.ensures
