-- The first root from the turn on is the first from the start on.
use mathlib.Core.Path.{◌≡◌}
use Rattle.event_turns.specs.Left.{next_due}
use Rattle.event_turns.proofs.next_root.Given as goal

abbrev pub invariant-loop-turn : goal.invariant-loop-turn
invariant-loop-turn l = next_due l.table l.with l.class l.turn ≡ next_due l.table l.with l.class l.from
