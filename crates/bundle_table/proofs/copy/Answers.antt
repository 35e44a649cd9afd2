-- The invariant: so many bytes are copied.
use Rattle.bundle_table.proofs.Copies.{copies-start, copies-next, copies-end}
use Rattle.bundle_table.proofs.copy.Goals as goal

pub loop-i-init : goal.loop-i-init
loop-i-init c = copies-start _ _ _ _ _ c.requires.0 c.requires.1

pub loop-i-preserved : goal.loop-i-preserved
loop-i-preserved c = copies-next _ _ _ _ _ c.requires.0 c.requires.1 c.loop-i-test.true c.loop-i.invariant

pub returns : goal.returns
returns c = copies-end _ _ _ _ _ c.requires.0 c.requires.1 c.loop-i-test.false c.loop-i.invariant
