-- The invariant: what stays is so many bytes, and what stays of the fragments that are left.
use mathlib.Core.Path.{◌∙◌}
use native.Mathlib.Omega.{arith}
use Rattle.bundle_table.proofs.Walked.{count-start, count_next, count-end, walk_here, walk-fits, kept-within}
use Rattle.bundle_table.proofs.kept_length.Goals as goal

pub loop-at-init : goal.loop-at-init
loop-at-init c =
    count-start c.requires.0 (c.into_iter-at-iterator.ensures.into_iter_gives ∙ c.fragments-at-items.ensures) c.preamble_size-count.ensures

pub kept_size-count-requires : goal.kept_size-count-requires
kept_size-count-requires c = (c.requires.0, walk_here c.loop-at.invariant.walked c.in-Some.ensures.steps, c.requires.1)

pub overflow_add-count : goal.overflow_add-count
overflow_add-count c =
    let a = c.args in
    let fits = walk-fits c.loop-at.invariant.walked c.in-Some.ensures.steps c.kept_size-count.ensures in
    omega (arith, fits.0, kept-within a.table.now a.sizes.now a.marks.now c.requires.0, c.requires.0.limit)

pub loop-at-preserved : goal.loop-at-preserved
loop-at-preserved c = count_next c.loop-at.invariant c.in-Some.ensures.steps c.kept_size-count.ensures

pub returns : goal.returns
returns c = count-end c.loop-at.invariant c.in-None.ensures.steps.0
