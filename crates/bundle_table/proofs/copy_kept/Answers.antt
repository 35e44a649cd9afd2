-- The invariant: what stays of the fragments passed is copied, behind the preamble.
use mathlib.Core.Path.{◌∙◌}
use native.Mathlib.Omega.{arith}
use Rattle.bundle_table.proofs.Walked.{begun, preamble-fits, copy_start, copy-next, copy-end, walk_here, walk-fits, kept-within}
use Rattle.bundle_table.proofs.copy_kept.Goals as goal

pub copy-requires : goal.copy-requires
copy-requires c = preamble-fits _ _ c.preamble_size-to.ensures c.requires.2

pub loop-at-init : goal.loop-at-init
loop-at-init c =
    copy_start c.requires.0 (c.into_iter-at-iterator.ensures.into_iter_gives ∙ c.fragments-at-items.ensures)
    (begun _ _ _ c.preamble_size-to.ensures c.copy.ensures)

pub kept_size-size-requires : goal.kept_size-size-requires
kept_size-size-requires c = (c.requires.0, walk_here c.loop-at.invariant.walked c.in-Some.ensures.steps, c.requires.1)

pub copy-requires-in-loop-at : goal.copy-requires-in-loop-at
copy-requires-in-loop-at c =
    let fits = walk-fits c.loop-at.invariant.walked c.in-Some.ensures.steps c.kept_size-size.ensures in
    (fits.1, omega (arith, fits.0, c.loop-at.auto.out, c.requires.2))

pub overflow_add-to : goal.overflow_add-to
overflow_add-to c =
    let a = c.args in
    let fits = walk-fits c.loop-at.invariant.walked c.in-Some.ensures.steps c.kept_size-size.ensures in
    omega (arith, fits.0, kept-within a.table.now a.sizes.now a.marks.now c.requires.0, c.requires.0.limit)

pub loop-at-preserved : goal.loop-at-preserved
loop-at-preserved c =
    copy-next c.loop-at.invariant c.in-Some.ensures.steps c.kept_size-size.ensures c.copy-in-loop-at.ensures

pub returns : goal.returns
returns c =
    copy-end c.in-None.ensures.steps.0 (begun _ _ _ c.preamble_size-to.ensures c.copy.ensures) c.loop-at.invariant
