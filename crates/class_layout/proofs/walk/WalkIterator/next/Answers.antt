-- Past the table nothing is left; else a fragment is there, and those behind it.
use mathlib.Core.Path.{sym, ap, ◌∙◌}
use native.Mathlib.Omega.{arith}
use lib.ListN.{length}
use Rattle.class_layout.proofs.Walked.{walk-none, walk-next}
use Rattle.class_layout.proofs.walk.WalkIterator.next.Goals as goal

pub returns-then-self-at-clause-steps : goal.returns-then-self-at-clause-steps
returns-then-self-at-clause-steps c =
    let e = sym c.self.view_is ∙ walk-none _ _ c.if-self-at.true in (e, e)

pub size_at-requires : goal.size_at-requires
size_at-requires c = omega (arith, c.self.invariant.room, c.if-self-at.false)

pub overflow_add-self : goal.overflow_add-self
overflow_add-self c = omega (arith, c.self.invariant.limit, c.if-self-at.false, c.size_at.ensures.1)

pub invariant_of-self : goal.invariant_of-self
invariant_of-self c = (walk-next c.if-self-at.false c.self.invariant c.size_at.ensures.0).sized

pub returns-clause-steps : goal.returns-clause-steps
returns-clause-steps c = sym c.self.view_is ∙ (walk-next c.if-self-at.false c.self.invariant c.size_at.ensures.0).same

pub returns-clause-goes : goal.returns-clause-goes
returns-clause-goes c =
    let e = ap length (sym c.self.view_is ∙ (walk-next c.if-self-at.false c.self.invariant c.size_at.ensures.0).same) in
    record { on = λ _. (tt, tt, omega (arith, e)); keeps = tt; rests = λ _. tt }
