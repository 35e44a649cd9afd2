-- The measure is three times the depth left, one more for the loop, and two more for each walk; that of the loop is the room left.
use Rattle.std.proofs.Common.{◌≡◌, ◌+◌, length}
use Rattle.rules.specs.Limits.{slot_count}
use Rattle.class_layout.specs.Notes.{notes}
use Rattle.field_read.specs.Reads.{state_at}
use Rattle.field_read.proofs.Round.{Round, work_left}
use Rattle.field_read.proofs.Walks.{walk_loop}
use Rattle.field_read.proofs.walk.+read_field_walk_walk_elements_walk_members.Given as goal

abbrev pub decreases-read_field : goal.decreases-read_field
decreases-read_field l = l.left + l.left + l.left

abbrev pub decreases-walk : goal.decreases-walk
decreases-walk l = l.left + l.left + l.left + 1

abbrev pub decreases-walk_elements : goal.decreases-walk_elements
decreases-walk_elements l = l.left + l.left + l.left + 2

abbrev pub decreases-walk_members : goal.decreases-walk_members
decreases-walk_members l = l.left + l.left + l.left + 2

-- a round, with all slots that came
abbrev pub invariant-walk-loop-only : goal.invariant-walk-loop-only
invariant-walk-loop-only l =
    (length l.given ≡ slot_count)
    × Round
    (walk_loop l.stream l.uuid l.frame l.left l.table (notes l.sizes l.aligns) l.initial.run l.st l.given l.initial.list)
    l.run l.list l.used (state_at l.place l.order l.state) l.slots

abbrev pub decreases-walk-loop-only : goal.decreases-walk-loop-only
decreases-walk-loop-only l = work_left (length l.list) l.used 0
