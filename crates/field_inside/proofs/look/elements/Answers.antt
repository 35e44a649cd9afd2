-- The place is the aligned one.
use mathlib.Core.Path.{◌∙◌}
use Rattle.frame.specs.Framed.{aligned_at}
use Rattle.field_inside.specs.Inside.{elements_from}
use Rattle.field_inside.proofs.Standing.{standing-at}
use Rattle.field_inside.proofs.look.elements.Goals as goal

pub returns : goal.returns
unfolding aligned_at
returns c =
    let a = c.args in
    c.within.ensures ∙ standing-at _ _ _ _ (elements_from a.count a.from) c.align-aligned.ensures
