-- When a packet's lengths contradict each other, the stream or the context (34), as the rules put it: of a packet from p on whose context
-- ends at q, in a stream that ends at a bit.
use Rattle.std.specs.Prelude.{Bool, not, ◌||◌, ℕ, ◌+◌, ◌%◌, ltb, eqb}
use Rattle.rules.specs.declared.BitPlace.{BitPlace}

abbrev pub contradicts : ℕ → ℕ → BitPlace → BitPlace → ℕ → Bool
contradicts total content p q end = not (eqb (total % 8) 0) || ltb total content || ltb end (p.0 + total) || ltb (p.0 + content) q.0
