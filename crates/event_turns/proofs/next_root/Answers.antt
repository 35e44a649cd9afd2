-- Turn by turn; behind the last there is no root.
use mathlib.Core.Path.{sym, ◌∙◌}
use Rattle.event_turns.specs.Left.{none_due}
use Rattle.event_turns.proofs.Lefts.{due-at, due-behind, due-over}
use Rattle.event_turns.proofs.next_root.Goals as goal

pub returns-in-Some : goal.returns-in-Some
returns-in-Some c =
    rw c.members.ensures
    (sym (due-at _ _ _ _ c.loop-turn-test.true _ (sym c.in-Some.is ∙ c.root_of.ensures)) ∙ c.loop-turn.invariant)

pub loop-turn-preserved : goal.loop-turn-preserved
loop-turn-preserved c =
    let none = sym c.in_default.is ∙ c.root_of.ensures in
    sym (due-behind _ _ _ _ c.loop-turn-test.true none) ∙ c.loop-turn.invariant

pub returns : goal.returns
unfolding none_due
returns c =
    let end = c.loop-turn.auto.turn-end in
    rw c.members-2.ensures (due-over _ _ _ _ _ _ c.loop-turn-test.false end c.max.ensures c.loop-turn.invariant)
