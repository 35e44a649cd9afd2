-- The invariant: the fragments whose sizes are still to be noted. The measure: the bytes left.
use mathlib.Core.Path.{refl}
use native.Mathlib.Omega.{arith}
use Rattle.class_layout.proofs.Written.{fragments-start, fragments-here, fragments-roots, fragments-next, fragments-done}
use Rattle.class_notes.proofs.note_fragments.Goals as goal

pub loop-at-init : goal.loop-at-init
loop-at-init c = fragments-start c.requires.0 c.requires.1

pub behind_fragment-next-requires : goal.behind_fragment-next-requires
behind_fragment-next-requires c =
    let i = c.loop-at.invariant in
    let on = c.loop-at-test.true in
    (fragments-here on i, fragments-roots on i, c.requires.2, omega (arith, i.size, c.requires.3))

pub overflow_sub-sizes : goal.overflow_sub-sizes
overflow_sub-sizes c =
    let f = fragments-here c.loop-at-test.true c.loop-at.invariant in
    omega (arith, c.behind_fragment-next.ensures, f.onward)

pub overflow_cast-sizes : goal.overflow_cast-sizes
overflow_cast-sizes c =
    let f = fragments-here c.loop-at-test.true c.loop-at.invariant in
    omega (arith, c.behind_fragment-next.ensures, f.within, c.loop-at.invariant.begun, c.requires.2)

pub bounds-sizes-at : goal.bounds-sizes-at
bounds-sizes-at c = omega (arith, c.loop-at.invariant.size, c.requires.3)

pub loop-at-smaller : goal.loop-at-smaller
loop-at-smaller c =
    let f = fragments-here c.loop-at-test.true c.loop-at.invariant in
    omega (arith, c.behind_fragment-next.ensures, f.onward)

pub loop-at-preserved : goal.loop-at-preserved
loop-at-preserved c = fragments-next c.loop-at-test.true c.behind_fragment-next.ensures refl c.loop-at.invariant

pub returns : goal.returns
returns c = fragments-done c.loop-at-test.false c.loop-at.invariant
