-- Kind 22 is the signed one.
use Rattle.leaf_find_number.specs.Found.{found_number}
use Rattle.leaf_find_number.proofs.find_signed.Goals as goal

pub returns : goal.returns
unfolding found_number
returns c = c.find_leb.ensures
