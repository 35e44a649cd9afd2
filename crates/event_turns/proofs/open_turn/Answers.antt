-- The lookup in its turn, and then the root that is next: it stands in the class that was found or came.
use borrow.Author.Tests.{not-true, not-false}
use Rattle.event_turns.specs.Left.{turn_left}
use Rattle.event_turns.proofs.Lefts.{turn_stopped, turn-due}
use Rattle.event_turns.proofs.Bodies.{looked-stands}
use Rattle.event_turns.proofs.open_turn.Goals as goal

pub returns-then-not-o : goal.returns-then-not-o
unfolding turn_left
returns-then-not-o c =
    let gave = c.look_up-o.ensures in
    record {
      value = turn_stopped _ _ _ _ _ gave.value _ (not-true _ c.if-not-o.true) c.stopped_turn.ensures;
      list_after = gave.list_after;
    }

pub next_root-due-requires : goal.next_root-due-requires
next_root-due-requires c =
    let pre = c.requires in
    let stands = looked-stands _ _ _ _ _ _ _ _ pre.sized _ _ pre.known _ c.look_up-o.ensures.value (not-false _ c.if-not-o.false) in
    record { sized_fragment = stands; table_len_bound = (pre.sized.limit, pre.sized.room) }

pub returns : goal.returns
unfolding turn_left
returns c =
    let gave = c.look_up-o.ensures in
    record {
      value = turn-due _ _ _ _ _ gave.value _ (not-false _ c.if-not-o.false) c.next_root-due.ensures;
      list_after = gave.list_after;
    }
