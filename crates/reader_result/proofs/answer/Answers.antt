-- By how the reading went.
use mathlib.Core.Path.{refl}
use Rattle.reader_result.specs.Answer.{answer_of}
use Rattle.reader_result.proofs.answer.Goals as goal

pub returns-in-Ok : goal.returns-in-Ok
unfolding answer_of
returns-in-Ok c = rw c.in-Ok.is refl

pub returns-in-Err : goal.returns-in-Err
unfolding answer_of
returns-in-Err c = rw (c.refused.ensures, c.in-Err.is) refl
