-- As kind 20 it has neither slot nor role.
use Rattle.rules.specs.Class.{kind_of}
use Rattle.rules.specs.Field.{value_of, slot_of}
use Rattle.leaf_after.specs.Seeing.{fixed_seen, bits_seen}
use Rattle.leaf_see_number.proofs.fixed.float.Goals as goal

pub returns : goal.returns
unfolding fixed_seen bits_seen kind_of value_of slot_of
returns c = c.see_bits.ensures
