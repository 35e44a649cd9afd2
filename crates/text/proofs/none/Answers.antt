-- What lets no byte through.
use Rattle.text.specs.Reading.{none_due}
use Rattle.text.proofs.none.Goals as goal

pub returns : goal.returns
unfolding none_due
returns c = c.bytes_due.ensures
