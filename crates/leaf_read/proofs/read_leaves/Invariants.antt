use Rattle.leaf_read.proofs.Reading.{asked, Reading}
use Rattle.leaf_read.proofs.read_leaves.Given as goal

abbrev pub invariant-loop-stop : goal.invariant-loop-stop
invariant-loop-stop l =
    Reading (asked l.again l.table l.stream l.uuid l.frame l.content l.from l.count l.initial.place l.initial.order l.initial.list) l.list l.at l.todo l.place l.order l.used

abbrev pub decreases-loop-stop : goal.decreases-loop-stop
decreases-loop-stop l =
    l.todo
