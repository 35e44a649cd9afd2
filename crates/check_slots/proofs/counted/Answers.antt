-- One test.
use mathlib.Core.Path.{◌≡◌, refl, ◌∙◌}
use mathlib.Core.Bool.{Bool, true, false}
use mir.Val.{bool_byte}
use Rattle.table_offsets.specs.Check.{pick_n}
use Rattle.check_slots.proofs.counted.Goals as goal

one_or_none : (b : Bool) → bool_byte b ≡ pick_n b 1 0
unfolding pick_n
one_or_none true = refl
one_or_none false = refl

pub returns : goal.returns
returns c = c.from.ensures ∙ one_or_none _
