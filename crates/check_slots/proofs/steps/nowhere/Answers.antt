-- The later of both.
use Rattle.std.proofs.Common.{◌≡◌, refl, ◌∙◌, ℕ, List, length, max, Bool, true, false, leb, arith}
use borrow.Author.Tests.{leb-true, leb-false}
use Rattle.table_offsets.specs.Check.{pick_n}
use Rattle.check_slots.specs.Homes.{nowhere}
use Rattle.check_slots.proofs.steps.nowhere.Goals as goal

later : (t : List ℕ) (at : ℕ) → max (length t) at ≡ nowhere t at
unfolding nowhere
later t at = by (leb (length t) at) refl
  where
    by : (b : Bool) → leb (length t) at ≡ b → max (length t) at ≡ pick_n b at (length t)
    by true e = unfold pick_n in omega (arith, leb-true (length t) at e)
    by false e = unfold pick_n in omega (arith, leb-false (length t) at e)

pub returns : goal.returns
returns c = c.max.ensures ∙ later _ _
