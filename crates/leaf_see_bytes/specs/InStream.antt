-- Bytes that lie in a stream.
use Rattle.std.specs.Prelude.{ℕ, ◌+◌, ◌/◌, ◌≤◌, List, length}
use Rattle.leaf_find_number.specs.declared.Found.{Found}
use Rattle.leaf_find_number.specs.declared.Found.TheVariants.{At, Refused}

unfoldable pub InStream : List ℕ → Found → Type 0
InStream b (At n p v) = p.0 / 8 + v ≤ length b
InStream b (Refused p r) = Unit {0}
