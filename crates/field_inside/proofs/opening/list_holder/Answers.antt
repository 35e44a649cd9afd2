-- One entry is written.
use Rattle.field_inside.proofs.opening.list_holder.Goals as goal

pub write-requires : goal.write-requires
write-requires c = c.requires

pub shape_of-list : goal.shape_of-list
shape_of-list c = c.write.auto.list

pub returns : goal.returns
returns c = rw c.wide64.ensures.0 at c.write.ensures
