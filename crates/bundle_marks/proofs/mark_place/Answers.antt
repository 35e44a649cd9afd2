-- One byte is set where there is a place.
use Rattle.bundle_marks.proofs.Marking.{place-below, marked-at, marked-nowhere}
use Rattle.bundle_marks.proofs.mark_place.Goals as goal

pub bounds-marks-at : goal.bounds-marks-at
bounds-marks-at c = place-below _ _ c.in-Some.is c.requires

pub returns-in-Some : goal.returns-in-Some
returns-in-Some c = marked-at _ _ c.in-Some.is

pub returns-in-None : goal.returns-in-None
returns-in-None c = marked-nowhere _ c.in-None.is
