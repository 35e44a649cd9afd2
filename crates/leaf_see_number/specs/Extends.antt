-- A number that can be extended to 64 bits.
use Rattle.std.specs.Prelude.{◌^◌, ◌<◌, ◌≤◌}
use Rattle.leaf_find_number.specs.declared.Found.{Found}
use Rattle.leaf_find_number.specs.declared.Found.TheVariants.{At, Refused}

unfoldable pub Extends : Found → Type 0
Extends (At n p v) = (1 ≤ n) × (n ≤ 64) × (v < 2 ^ n)
Extends (Refused p r) = Unit {0}
