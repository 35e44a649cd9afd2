-- Kind 21 is the other one.
use Rattle.leaf_find_number.specs.Found.{found_number}
use Rattle.leaf_find_number.proofs.find_unsigned.Goals as goal

pub returns : goal.returns
unfolding found_number
returns c = c.find_leb.ensures
