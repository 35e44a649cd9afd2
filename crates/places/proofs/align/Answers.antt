-- The aligned place is the aligned number.
use Rattle.places.proofs.align.Goals as goal

pub returns : goal.returns
returns c = rw c.aligned.ensures
