-- The place is the aligned one.
use mathlib.Core.Path.{◌∙◌}
use Rattle.frame.specs.Framed.{aligned_at}
use Rattle.field_inside.specs.Inside.{members_from}
use Rattle.field_inside.proofs.Standing.{standing-at}
use Rattle.field_inside.proofs.look.members.Goals as goal

pub returns : goal.returns
unfolding aligned_at
returns c =
    let a = c.args in
    c.within.ensures ∙ standing-at _ _ _ _ (members_from a.count a.from) c.align-aligned.ensures
