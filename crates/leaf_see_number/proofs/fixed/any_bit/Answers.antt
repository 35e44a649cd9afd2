-- A number that is not zero has a bit.
use mathlib.Core.Path.{◌≡◌, refl}
use mathlib.Core.Bool.{not}
use Prim.Native.Nat.{ℕ, zero, suc}
use lib.Dec.{eqb, eqb-suc-zero}
use Rattle.rules.specs.Field.{truth}
use Rattle.leaf_see_number.proofs.fixed.any_bit.Goals as goal

not-zero : (v : ℕ) → not (eqb v 0) ≡ truth v
unfolding truth
not-zero zero = refl
not-zero (suc v) = rw (eqb-suc-zero v) refl

pub returns : goal.returns
returns c = not-zero c.args.value
