-- The header's run is that of its root.
use Rattle.event_turns.specs.Left.{header_run}
use Rattle.event_turns.proofs.header_run.Goals as goal

pub returns : goal.returns
unfolding header_run
returns c = c.run_of.ensures
