use mathlib.Core.List.{List}
use Prim.Native.Nat.{ℕ}
use lib.ListN.{length}
use Rattle.rules.specs.Step.{Out}
use Rattle.class_layout.specs.Notes.{notes}
use Rattle.field_read.specs.Reads.{state_at}
use Rattle.field_read.proofs.Round.{work_left}
use Rattle.event_read.proofs.Rounds.{Given, EventRound}
use Rattle.event_read.proofs.Rounds.{steps_left}
use Rattle.event_read.proofs.read_event.Given as goal

-- Of what the event is a part does not matter to a round: whatever the outcome of it all and its list are, what was kept at the loop's
-- start is kept.
abbrev pub invariant-loop-only : goal.invariant-loop-only
invariant-loop-only l =
    let g : Given = record {
      stream = l.stream;
      uuid = l.uuid;
      frame = l.frame;
      table = l.table;
      notes = notes l.sizes l.aligns;
      asking = l.with;
      begun = l.begun;
    } in
    (all : Out) (ws : List ℕ) → EventRound g all ws l.initial.class l.initial.turn l.initial.run l.initial.pile l.initial.off l.initial.list
    l.initial.used (state_at l.initial.place l.initial.order l.initial.state) l.initial.slots
    → EventRound g all ws l.class l.turn l.run l.pile l.off l.list l.used (state_at l.place l.order l.state) l.slots

abbrev pub decreases-loop-only : goal.decreases-loop-only
decreases-loop-only l = work_left (length l.list) l.used (steps_left l.turn l.off)
