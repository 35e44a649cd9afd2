-- A root is one member, or none.
use Rattle.event_turns.specs.Left.{root_run}
use Rattle.event_turns.proofs.run_of.Goals as goal

pub returns-in-None : goal.returns-in-None
unfolding root_run
returns-in-None c = rw c.in-None.is c.members.ensures

pub returns-in-Some : goal.returns-in-Some
unfolding root_run
returns-in-Some c = rw c.in-Some.is c.members-in-Some.ensures
