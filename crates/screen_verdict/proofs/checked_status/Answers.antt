-- By how it ended.
use Rattle.screen_verdict.specs.Verdict.{checked_status}
use Rattle.screen_verdict.proofs.checked_status.Goals as goal

pub returns-in-Ok : goal.returns-in-Ok
unfolding checked_status
returns-in-Ok c = rw c.in-Ok.is

pub returns-in-Err : goal.returns-in-Err
unfolding checked_status
returns-in-Err c = rw c.in-Err.is
