-- By whether it is zero.
use mathlib.Core.Path.{◌≡◌, refl}
use Prim.Native.Nat.{ℕ, zero, suc}
use Rattle.rules.specs.Field.{truth, one_or_none}
use Rattle.leaf_see_number.proofs.fixed.one_or_none.Goals as goal

some : (v : ℕ) → (v ≡ 0 → ⊥) → 1 ≡ one_or_none (truth v)
unfolding truth one_or_none
some zero h = absurd (h refl)
some (suc v) h = refl

pub returns-then-value-eq0 : goal.returns-then-value-eq0
unfolding truth one_or_none
returns-then-value-eq0 c = rw c.if-value-eq0.true refl

pub returns-else-value-eq0 : goal.returns-else-value-eq0
returns-else-value-eq0 c = some _ c.if-value-eq0.false
