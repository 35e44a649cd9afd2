-- A fragment that is left is tested; where it does not pass, the first of all is the first of those behind it.
use mathlib.Core.Path.{sym, ap, ◌∙◌}
use Rattle.class_layout.specs.Fragments.{first_of}
use Rattle.class_lookup.proofs.First.{first-hit, first-miss, first-none}
use Rattle.class_lookup.proofs.first_fragment.Goals as goal

pub loop-at-init : goal.loop-at-init
loop-at-init g c =
    let e = c.into_iter-at-iterator.ensures.into_iter_gives ∙ c.fragments-at-items.ensures in
    record { each = rw e c.requires.sized.each; same = λ test h. ap (first_of test) (sym e) }

pub passes-requires : goal.passes-requires
passes-requires g c =
    let w = rw c.in-Some.ensures.steps at c.loop-at.invariant.each in
    c.requires.asked c.in-Some.at w.0.stands

pub returns-then-passes : goal.returns-then-passes
returns-then-passes g c = λ test h.
    let w = rw c.in-Some.ensures.steps at c.loop-at.invariant.each in
    let b = sym (h _ _ w.0.stands c.passes.ensures) ∙ c.if-passes.true in
    first-hit test _ (c.loop-at.invariant.same test h) c.in-Some.ensures.steps b

pub loop-at-preserved : goal.loop-at-preserved
loop-at-preserved g c =
    let w = rw c.in-Some.ensures.steps at c.loop-at.invariant.each in
    record {
      each = w.1;
      same = λ test h.
          let b = sym (h _ _ w.0.stands c.passes.ensures) ∙ c.if-passes.false in
          first-miss test _ (c.loop-at.invariant.same test h) c.in-Some.ensures.steps b;
    }

pub returns : goal.returns
returns g c = λ test h. first-none test _ (c.loop-at.invariant.same test h) c.in-None.ensures.steps.0
